use Rattle.imports.proofs.Drawn.{numbers_are_new}
use Rattle.imports.proofs.laws.an_import_draws_new_numbers.Goals as goal

pub returns : goal.returns
returns c = numbers_are_new
