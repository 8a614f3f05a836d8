-- At each turn, the lowest of the numbers so far at which such an entry is.
use Rattle.std.proofs.Common.{◌≡◌, ℕ, false, Ok, take}
use Rattle.sqlite.specs.Held.{state}
use Rattle.archive_state.specs.Entries.{IsEntryAt}
use Rattle.store_rows.specs.Finding.{IsLowestAmong}
use Rattle.store_rows.specs.Looking.{Sees}
use Rattle.store_rows.proofs.finding.lowest_entry.Given as goal

abbrev pub invariant-numbers : goal.invariant-numbers
invariant-numbers g l =
    (l.conn.in_transaction ≡ false)
    × Sees (λ c (_ : Unit {0}). IsLowestAmong (λ (n : ℕ). IsEntryAt c.records l.source l.kind l.page l.item n)
    (take l.number-index l.numbers) l.lowest) (state g.S.Store l.fn.conn) (state g.S.Store l.conn) (Ok tt)
