use Rattle.packed_rows.proofs.Apart.{side_by_side}
use Rattle.packed_rows.proofs.laws.keys_of_links_to_a_number_are_side_by_side.Goals as goal

pub returns : goal.returns
returns c = side_by_side
