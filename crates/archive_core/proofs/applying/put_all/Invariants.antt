use Rattle.std.proofs.Common.{◌≡◌}
use Rattle.std.specs.Vec.Iter.{into_iter_items, into_iter_len}
use Rattle.record_shapes.specs.Lists.{EachOf}
use Rattle.archive_state.specs.Applied.{with_all}
use Rattle.archive_core.proofs.Room.{IsThereFor}
use Rattle.archive_core.proofs.applying.put_all.Given as goal

abbrev pub invariant-puts : goal.invariant-puts
invariant-puts l = record {
  made : with_all l.state (into_iter_items l.puts) ≡ with_all l.fn.state l.fn.puts.items;
  there : EachOf (IsThereFor l.state.records) (into_iter_items l.puts);
}

abbrev pub decreases-puts : goal.decreases-puts
decreases-puts l = into_iter_len l.puts
