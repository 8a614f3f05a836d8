use Rattle.archive_state.proofs.Known.{path_known}
use Rattle.archive_state.proofs.laws.the_path_of_a_place_is_known.Goals as goal

pub returns : goal.returns
returns c = path_known
