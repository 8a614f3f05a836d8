use Rattle.std.proofs.Common.{◌≡◌, ◌++◌, take}
use Rattle.std.specs.List.{flat_map}
use Rattle.entry_tables.specs.Tables.{role_columns}
use Rattle.entry_tables.proofs.columns.push_columns.Given as goal

abbrev pub invariant-each : goal.invariant-each
invariant-each l = l.row ≡ l.fn.row ++ flat_map (λ w. role_columns w.0 w.1) (take l.width-index l.widths)
