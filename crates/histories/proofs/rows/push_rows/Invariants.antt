use Rattle.std.proofs.Common.{◌≡◌, ◌++◌, ◌+◌, drop}
use Rattle.histories.specs.Rows.{rows}
use Rattle.histories.proofs.rows.push_rows.Given as goal

abbrev pub invariant-each : goal.invariant-each
invariant-each l = l.out.items ++ rows l.begin (l.before + 1) (drop l.before l.found)
    ≡ l.fn.out.items ++ rows l.begin 1 l.found
