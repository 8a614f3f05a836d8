use Rattle.file_records.proofs.Found.{side_is}
use Rattle.file_records.proofs.laws.the_side_of_a_person_is_found.Goals as goal

pub returns : goal.returns
returns c = side_is
