use Rattle.commands.proofs.Again.{bytes_back}
use Rattle.commands.proofs.laws.the_bytes_of_a_command_are_its_row.Goals as goal

pub returns : goal.returns
returns c = bytes_back
