use Rattle.store_rows.proofs.Staying.{others_stay}
use Rattle.store_rows.proofs.laws.rows_of_other_numbers_stay.Goals as goal

pub returns : goal.returns
returns c = others_stay
