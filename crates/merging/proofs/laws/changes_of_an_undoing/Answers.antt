use Rattle.merging.proofs.Applying.{undo_applied}
use Rattle.merging.proofs.laws.changes_of_an_undoing.Goals as goal

pub returns : goal.returns
returns _ c n s a at = undo_applied c n s a at
