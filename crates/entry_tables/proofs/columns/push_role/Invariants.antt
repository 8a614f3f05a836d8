use Rattle.std.proofs.Common.{◌≡◌, ◌++◌}
use Rattle.entry_tables.specs.Tables.{role_columns}
use Rattle.entry_tables.proofs.columns.push_role.Given as goal

abbrev pub invariant-each : goal.invariant-each
invariant-each l = l.row ≡ l.fn.row ++ role_columns l.role l.before
