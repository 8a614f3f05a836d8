use Rattle.merging.proofs.Stepping.{merged_sound}
use Rattle.merging.proofs.laws.a_merge_keeps_an_archive_sound.Goals as goal

pub returns : goal.returns
returns _ c after keep gone a sound e = merged_sound c after keep gone a sound e
