use Rattle.std.proofs.Common.{◌≡◌, ◌++◌, take}
use Rattle.std.specs.List.{flat_map}
use Rattle.entry_tables.specs.Tables.{name_cell}
use Rattle.entry_tables.proofs.rows.push_names.Given as goal

abbrev pub invariant-each : goal.invariant-each
invariant-each l = l.row ≡ l.fn.row ++ flat_map (name_cell l.role) (take l.mention-index l.mentions)
