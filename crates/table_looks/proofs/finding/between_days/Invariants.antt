-- At each turn, what is found is of the rows that were looked at, and those with the rest are all spans.
use Rattle.std.proofs.Common.{◌≡◌, true, false, Ok}
use Rattle.sqlite.specs.Held.{state}
use Rattle.store_tables.specs.Looking.{Looks}
use Rattle.table_looks.proofs.Seen.{IsOnTheWay}
use Rattle.table_looks.proofs.finding.between_days.Given as goal

abbrev pub invariant-rows : goal.invariant-rows
invariant-rows g l =
    (l.conn.in_transaction ≡ false)
    × Looks (λ rows (_ : Unit {0}). rows.has_spans ≡ true
    → IsOnTheWay l.first l.last l.yielded l.row-iterator.rest.items l.found.items rows) (state g.S.Store l.fn.conn)
    (state g.S.Store l.conn) (Ok tt)
