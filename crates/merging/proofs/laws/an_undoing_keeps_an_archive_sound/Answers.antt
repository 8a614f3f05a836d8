use Rattle.merging.proofs.Stepping.{undone_sound}
use Rattle.merging.proofs.laws.an_undoing_keeps_an_archive_sound.Goals as goal

pub returns : goal.returns
returns _ c after n a sound e = undone_sound c after n a sound e
