use Rattle.std.proofs.Common.{take}
use Rattle.std.specs.BTreeMap as tree
use Rattle.std.specs.Ordering.{nat_cmp}
use Rattle.record_shapes.specs.Lists.{EachOf}
use Rattle.table_looks.specs.Spanning.{HasOwn}
use Rattle.table_looks.proofs.spanning.first_without.Given as goal

abbrev pub invariant-numbers : goal.invariant-numbers
invariant-numbers l = EachOf (HasOwn l.held (tree.get nat_cmp l.spans)) (take l.number-index l.numbers)
