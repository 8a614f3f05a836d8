use Rattle.commands.proofs.Wordings.{one_command}
use Rattle.commands.proofs.laws.two_commands_have_other_bytes.Goals as goal

pub returns : goal.returns
returns c = one_command
