use Rattle.merging.proofs.Drawing.{undo_uses_none}
use Rattle.merging.proofs.laws.an_undoing_uses_no_number_again.Goals as goal

pub returns : goal.returns
returns _ c after k a e = undo_uses_none c after k a e
