-- At each turn, the lowest of the numbers so far whose place has the path.
use Rattle.std.proofs.Common.{◌≡◌, ℕ, false, Ok, take}
use Rattle.sqlite.specs.Held.{state}
use Rattle.archive_state.specs.Paths.{HasPath}
use Rattle.store_rows.specs.Finding.{IsLowestAmong}
use Rattle.store_rows.specs.Looking.{Sees}
use Rattle.store_rows.proofs.finding.lowest_place.Given as goal

abbrev pub invariant-numbers : goal.invariant-numbers
invariant-numbers g l =
    (l.conn.in_transaction ≡ false)
    × Sees (λ c (_ : Unit {0}). IsLowestAmong (λ (n : ℕ). HasPath c.records n l.path) (take l.number-index l.numbers)
    l.lowest) (state g.S.Store l.fn.conn) (state g.S.Store l.conn) (Ok tt)
