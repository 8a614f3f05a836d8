use Rattle.record_shapes.proofs.Places.{path_found}
use Rattle.record_shapes.proofs.laws.the_path_of_a_place_is_found.Goals as goal

pub returns : goal.returns
returns c = path_found
