use Rattle.merging.proofs.Drawing.{merge_uses_none}
use Rattle.merging.proofs.laws.a_merge_uses_no_number_again.Goals as goal

pub returns : goal.returns
returns _ c after keep gone a e = merge_uses_none c after keep gone a e
