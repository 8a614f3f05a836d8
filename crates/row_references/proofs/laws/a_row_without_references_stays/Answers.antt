use Rattle.row_references.proofs.InPlace.{all_stays}
use Rattle.row_references.proofs.laws.a_row_without_references_stays.Goals as goal

pub returns : goal.returns
returns c = all_stays
