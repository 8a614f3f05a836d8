use Rattle.std.proofs.Common.{◌≡◌, take}
use Rattle.std.specs.BTreeSet as set
use Rattle.std.specs.Ordering.{nat_cmp}
use Rattle.store_rows.specs.Grouped.{group_at, AreRecordsOf}
use Rattle.store_rows.proofs.state.put_records.Given as goal

abbrev pub invariant-rows : goal.invariant-rows
invariant-rows l = AreRecordsOf (set.contains nat_cmp l.closed) (group_at l.groups) (take l.row-index l.rows)
    l.state.records × (l.state ≡ record l.initial.state { records = l.state.records })
