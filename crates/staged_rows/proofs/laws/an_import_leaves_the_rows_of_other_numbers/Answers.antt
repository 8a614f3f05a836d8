use Rattle.staged_rows.proofs.Staying.{others_stay}
use Rattle.staged_rows.proofs.laws.an_import_leaves_the_rows_of_other_numbers.Goals as goal

pub returns : goal.returns
returns c = others_stay
