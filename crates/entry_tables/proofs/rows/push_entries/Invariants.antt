use Rattle.std.proofs.Common.{◌≡◌, ◌++◌, take}
use Rattle.std.specs.List.{flat_map}
use Rattle.entry_tables.specs.Tables.{entry_row}
use Rattle.entry_tables.proofs.rows.push_entries.Given as goal

abbrev pub invariant-each : goal.invariant-each
invariant-each l = l.out.items ≡ l.fn.out.items ++ flat_map (entry_row l.widths) (take l.one-index l.entries)
