use Rattle.std.proofs.Common.{◌≡◌, filter, take}
use Rattle.std.specs.BTreeSet as set
use Rattle.std.specs.Ordering.{nat_cmp}
use Rattle.store_rows.proofs.tagged.chosen.Given as goal

abbrev pub invariant-numbers : goal.invariant-numbers
invariant-numbers l = l.found.items ≡ filter (set.contains nat_cmp l.members) (take l.number-index l.numbers)
