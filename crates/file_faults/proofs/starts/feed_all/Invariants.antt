use Rattle.std.proofs.Common.{◌≤◌, ◌-◌}
use Rattle.gedcom_tree.specs.Streams.{Feeds}
use Rattle.file_faults.proofs.starts.feed_all.Given as goal

abbrev pub invariant-pieces : goal.invariant-pieces
invariant-pieces g l = record {
  fed : Feeds (g.R.Read.remaining l.fn.reader) (g.R.Read.remaining l.reader) l.lines l.total;
  small : l.total ≤ 67108864;
}

abbrev pub decreases-pieces : goal.decreases-pieces
decreases-pieces g l = 67108864 - l.total
