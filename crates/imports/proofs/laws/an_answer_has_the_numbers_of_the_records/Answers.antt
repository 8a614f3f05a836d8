use Rattle.imports.proofs.Commands.{import_draws}
use Rattle.imports.proofs.laws.an_answer_has_the_numbers_of_the_records.Goals as goal

pub returns : goal.returns
returns _ c after f a e = import_draws c after f a e
