use Rattle.commands.proofs.Again.{one_entry_outcome, some_entry}
use Rattle.commands.proofs.laws.a_row_of_a_batch_is_read_in_one_way.Goals as goal

pub returns-clause-some : goal.returns-clause-some
returns-clause-some c = some_entry

pub returns-clause-one : goal.returns-clause-one
returns-clause-one c = one_entry_outcome
