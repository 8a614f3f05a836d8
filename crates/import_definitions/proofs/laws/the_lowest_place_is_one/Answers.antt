use Rattle.import_definitions.proofs.Lowest.{lowest_is}
use Rattle.import_definitions.proofs.laws.the_lowest_place_is_one.Goals as goal

pub returns : goal.returns
returns c = lowest_is
