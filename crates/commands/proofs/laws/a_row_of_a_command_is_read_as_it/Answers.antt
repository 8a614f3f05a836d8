use Rattle.commands.proofs.Again.{row_back}
use Rattle.commands.proofs.laws.a_row_of_a_command_is_read_as_it.Goals as goal

pub returns : goal.returns
returns c = row_back
