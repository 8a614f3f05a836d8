-- At each turn the lines of the numbers from the first on that is gathered are left, and all that is left means what it
-- meant.
use Rattle.std.proofs.Common.{◌≡◌, ◌≤◌, false, drop}
use Rattle.sqlite.specs.Held.{state}
use Rattle.store_rows.specs.Writing.{without_all_lines}
use Rattle.staging.proofs.Cleared.{IsOnTheWay}
use Rattle.staging.proofs.removing.take_lines.Given as goal

abbrev pub invariant-numbers : goal.invariant-numbers
invariant-numbers g l = record {
  ended : l.conn.in_transaction ≡ false;
  first : l.first ≤ l.at;
  few : l.gathered ≤ 256;
  way : IsOnTheWay l.numbers
      (λ rows here. without_all_lines (drop l.first l.numbers) here ≡ without_all_lines l.numbers rows)
      (state g.S.Store l.fn.conn) (state g.S.Store l.conn);
}
