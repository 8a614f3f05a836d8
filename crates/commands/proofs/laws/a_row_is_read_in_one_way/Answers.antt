use Rattle.commands.proofs.Again.{one_outcome, some_outcome}
use Rattle.commands.proofs.laws.a_row_is_read_in_one_way.Goals as goal

pub returns-clause-some : goal.returns-clause-some
returns-clause-some c = some_outcome

pub returns-clause-one : goal.returns-clause-one
returns-clause-one c = one_outcome
