use Rattle.row_references.proofs.InPlace.{all_unknown}
use Rattle.row_references.proofs.laws.a_row_with_references_wants_numbers.Goals as goal

pub returns : goal.returns
returns c = all_unknown
