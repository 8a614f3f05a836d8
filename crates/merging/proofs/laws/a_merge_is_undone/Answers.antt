use Rattle.merging.proofs.Stepping.{undo_merged}
use Rattle.merging.proofs.laws.a_merge_is_undone.Goals as goal

pub returns : goal.returns
returns _ c after keep gone a e = undo_merged c after keep gone a e
