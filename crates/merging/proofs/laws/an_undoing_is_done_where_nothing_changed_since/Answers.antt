use Rattle.merging.proofs.Judging.{when_undone}
use Rattle.merging.proofs.laws.an_undoing_is_done_where_nothing_changed_since.Goals as goal

pub returns : goal.returns
returns _ c n s there = when_undone c n s there
