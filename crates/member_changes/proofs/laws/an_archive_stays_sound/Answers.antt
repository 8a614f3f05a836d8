use Rattle.member_changes.proofs.Stepping.{keeps_sound}
use Rattle.member_changes.proofs.laws.an_archive_stays_sound.Goals as goal

pub returns : goal.returns
returns c = keeps_sound
