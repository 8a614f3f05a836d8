use Rattle.merging.proofs.Stepping.{merged_all}
use Rattle.merging.proofs.laws.a_merge_is_of_all_records.Goals as goal

pub returns : goal.returns
returns _ c after keep gone a n sound e = merged_all c after keep gone a n sound e
