use Rattle.std.proofs.Common.{◌≡◌, take}
use Rattle.entry_tables.specs.Tables.{widest}
use Rattle.entry_tables.proofs.columns.widest.Given as goal

abbrev pub invariant-each : goal.invariant-each
invariant-each l = l.most ≡ widest l.role (take l.one-index l.entries)
