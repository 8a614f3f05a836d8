-- At each turn the rows of the rest are left, and all that is left means what it meant.
use Rattle.std.proofs.Common.{◌≡◌, ◌++◌, ℕ, List, false, length}
use Rattle.sqlite.specs.Held.{state}
use Rattle.store_rows.specs.Writing.{without_record_rows}
use Rattle.staging.proofs.Cleared.{IsOnTheWay}
use Rattle.staging.proofs.removing.take_rows.Given as goal

abbrev pub invariant-rows : goal.invariant-rows
invariant-rows g l = record {
  ended : l.conn.in_transaction ≡ false;
  taken : (front : List ℕ) × (l.fn.numbers ≡ front ++ l.rest);
  way : IsOnTheWay l.fn.numbers
      (λ rows here. without_record_rows l.rest here ≡ without_record_rows l.fn.numbers rows)
      (state g.S.Store l.fn.conn) (state g.S.Store l.conn);
}

abbrev pub decreases-rows : goal.decreases-rows
decreases-rows g l = length l.rest
