use Rattle.merging.proofs.Drawing.{merge_draws}
use Rattle.merging.proofs.laws.a_merge_draws_its_slip.Goals as goal

pub returns : goal.returns
returns _ c after keep gone a e = merge_draws c after keep gone a e
