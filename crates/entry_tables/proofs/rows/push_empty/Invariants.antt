use Rattle.std.proofs.Common.{◌≡◌, ◌++◌, []}
use Rattle.std.specs.Prelude.{replicate}
use Rattle.entry_tables.proofs.rows.push_empty.Given as goal

abbrev pub invariant-each : goal.invariant-each
invariant-each l = l.row ≡ l.fn.row ++ replicate l.before []
