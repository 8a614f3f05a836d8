use Rattle.merging.proofs.Drawing.{undo_draws}
use Rattle.merging.proofs.laws.an_undoing_draws_none.Goals as goal

pub returns : goal.returns
returns _ c after k a e = undo_draws c after k a e
