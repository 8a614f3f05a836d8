use Rattle.round_trip.proofs.Paths.{known_again}
use Rattle.round_trip.proofs.laws.tags_and_paths_come_back.Goals as goal

pub returns : goal.returns
returns c = λ s is. known_again s is c.a_sound_archive_is_readable.ensures c.the_path_of_a_place_is_found.ensures
