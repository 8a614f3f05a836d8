use Rattle.commands.proofs.Wordings.{one_wording}
use Rattle.commands.proofs.laws.two_wordings_have_other_bytes.Goals as goal

pub returns : goal.returns
returns c = one_wording
