use Rattle.std.proofs.Common.{take}
use Rattle.std.specs.BTreeSet as set
use Rattle.std.specs.FinMap.{get}
use Rattle.record_shapes.specs.Lists.{EachOf}
use Rattle.table_looks.specs.Linking.{IsLinked, pair_order}
use Rattle.table_looks.proofs.linking.first_without.Given as goal

abbrev pub invariant-numbers : goal.invariant-numbers
invariant-numbers l = EachOf (λ n. IsLinked (set.contains pair_order l.links) n (get l.held.records n))
    (take l.number-index l.numbers)
