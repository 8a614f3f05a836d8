use Rattle.std.proofs.Common.{◌∷◌}
use Rattle.page_places.specs.Ways.{above}
use Rattle.page_places.proofs.Needed.{all_needed}
use Rattle.page_places.proofs.laws.each_place_of_a_path_is_there_or_made.Goals as goal

pub returns : goal.returns
returns c = λ m made path named. all_needed m made (path ∷ above path) named
