use Rattle.place_names.proofs.Mending.{keeps_sound}
use Rattle.place_names.proofs.laws.an_archive_stays_sound.Goals as goal

pub returns : goal.returns
returns c = keeps_sound
