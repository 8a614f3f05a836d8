-- At each byte, all numbers that are looked for by the path, or by what ends before this byte.
use Rattle.std.proofs.Common.{◌≡◌, false, Ok}
use Rattle.sqlite.specs.Held.{state}
use Rattle.store_tables.specs.Looking.{Looks}
use Rattle.store_rows.proofs.Found.{HasBelow}
use Rattle.store_rows.proofs.finding.numbers_with_a_front.Given as goal

abbrev pub invariant-bytes : goal.invariant-bytes
invariant-bytes g l =
    (l.conn.in_transaction ≡ false)
    × Looks (λ rows (_ : Unit {0}). HasBelow l.at l.path rows l.found.items) (state g.S.Store l.fn.conn)
    (state g.S.Store l.conn) (Ok tt)
