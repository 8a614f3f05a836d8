use Rattle.field_changes.proofs.Stepping.{keeps_sound}
use Rattle.field_changes.proofs.laws.an_archive_stays_sound.Goals as goal

pub returns : goal.returns
returns c = keeps_sound
