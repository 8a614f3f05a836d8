use Rattle.std.proofs.Common.{◌≡◌, take}
use Rattle.entry_tables.specs.Tables.{widths}
use Rattle.entry_tables.proofs.columns.widths_of.Given as goal

abbrev pub invariant-each : goal.invariant-each
invariant-each l = l.found.items ≡ widths (take l.role-index l.roles) l.entries
