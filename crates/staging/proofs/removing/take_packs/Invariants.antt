-- At each turn the lines of the rest are left, and all that is left means what it meant.
use Rattle.std.proofs.Common.{◌≡◌, ◌++◌, ℕ, List, false, length}
use Rattle.sqlite.specs.Held.{state}
use Rattle.store_rows.specs.Writing.{without_all_lines}
use Rattle.staging.proofs.Cleared.{IsOnTheWay}
use Rattle.staging.proofs.removing.take_packs.Given as goal

abbrev pub invariant-packs : goal.invariant-packs
invariant-packs g l = record {
  ended : l.conn.in_transaction ≡ false;
  taken : (front : List ℕ) × (l.fn.numbers ≡ front ++ l.rest);
  way : IsOnTheWay l.fn.numbers
      (λ rows here. without_all_lines l.rest here ≡ without_all_lines l.fn.numbers rows)
      (state g.S.Store l.fn.conn) (state g.S.Store l.conn);
}

abbrev pub decreases-packs : goal.decreases-packs
decreases-packs g l = length l.rest
