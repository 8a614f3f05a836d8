use Rattle.archive_state.proofs.Climbing.{path_once}
use Rattle.archive_state.proofs.laws.a_place_has_one_path.Goals as goal

pub returns : goal.returns
returns c = path_once
