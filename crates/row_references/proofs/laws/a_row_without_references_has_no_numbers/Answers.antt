use Rattle.row_references.proofs.InPlace.{only_itself}
use Rattle.row_references.proofs.laws.a_row_without_references_has_no_numbers.Goals as goal

pub returns : goal.returns
returns c = only_itself
