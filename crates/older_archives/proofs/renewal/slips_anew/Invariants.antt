use Rattle.std.proofs.Common.{take}
use Rattle.store_rows.specs.Grouped.{slip_group_at}
use Rattle.older_archives.specs.Reading.{AreSlipsAnew}
use Rattle.older_archives.proofs.renewal.slips_anew.Given as goal

abbrev pub invariant-rows : goal.invariant-rows
invariant-rows l = AreSlipsAnew (slip_group_at l.groups) (take l.row-index l.rows) l.found.items
