use Rattle.std.proofs.Common.{take}
use Rattle.std.specs.BTreeSet as set
use Rattle.std.specs.Ordering.{nat_cmp}
use Rattle.store_rows.specs.Grouped.{group_at}
use Rattle.older_archives.specs.Reading.{AreRecordsAnew}
use Rattle.older_archives.proofs.renewal.records_anew.Given as goal

abbrev pub invariant-rows : goal.invariant-rows
invariant-rows l = AreRecordsAnew (set.contains nat_cmp l.closed) (group_at l.groups) (take l.row-index l.rows)
    l.found.items
