use Rattle.merging.proofs.Applying.{merge_applied}
use Rattle.merging.proofs.laws.changes_of_a_merge.Goals as goal

pub returns : goal.returns
returns _ c keep gone a = merge_applied c keep gone a
