use Rattle.commands.proofs.Again.{fields_back}
use Rattle.commands.proofs.laws.the_fields_of_an_entry_are_read_as_it.Goals as goal

pub returns : goal.returns
returns c = fields_back
