use Rattle.std.proofs.Common.{take}
use Rattle.std.specs.BTreeMap as tree
use Rattle.std.specs.Ordering.{nat_cmp}
use Rattle.date_spans.specs.Gathered.{AreSpansOf}
use Rattle.date_spans.proofs.record_spans.spans.Given as goal

abbrev pub invariant-numbers : goal.invariant-numbers
invariant-numbers l = AreSpansOf (take l.number-index l.number-items) l.state.records (tree.get nat_cmp l.spans)
