use Rattle.std.proofs.Common.{◌≡◌, ◌++◌, take}
use Rattle.std.specs.List.{flat_map}
use Rattle.entry_tables.specs.Tables.{role_cells}
use Rattle.entry_tables.proofs.rows.push_roles.Given as goal

abbrev pub invariant-each : goal.invariant-each
invariant-each l = l.row ≡ l.fn.row ++ flat_map (λ w. role_cells w.0 w.1 l.mentions) (take l.width-index l.widths)
