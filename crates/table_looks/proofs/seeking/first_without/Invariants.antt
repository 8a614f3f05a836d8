use Rattle.std.proofs.Common.{take}
use Rattle.std.specs.BTreeMap as tree
use Rattle.std.specs.Ordering.{nat_cmp}
use Rattle.record_shapes.specs.Lists.{EachOf}
use Rattle.table_looks.specs.Seeking.{HasSought}
use Rattle.table_looks.proofs.seeking.first_without.Given as goal

abbrev pub invariant-numbers : goal.invariant-numbers
invariant-numbers l = EachOf (HasSought l.held (tree.get nat_cmp l.soughts)) (take l.number-index l.numbers)
