use Rattle.std.proofs.Common.{◌≡◌, take}
use Rattle.std.specs.BTreeSet as set
use Rattle.std.specs.Ordering.{nat_cmp}
use Rattle.store_rows.specs.Grouped.{numbers_by}
use Rattle.store_rows.proofs.looking.numbers_in.Given as goal

abbrev pub invariant-rows : goal.invariant-rows
invariant-rows l = l.found.items ≡ numbers_by (set.contains nat_cmp l.closed) (take l.row-index l.rows)
