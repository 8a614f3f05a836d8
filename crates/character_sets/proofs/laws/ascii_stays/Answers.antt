use Rattle.character_sets.proofs.Ascii.{stays}
use Rattle.character_sets.proofs.laws.ascii_stays.Goals as goal

pub returns : goal.returns
returns c = stays
