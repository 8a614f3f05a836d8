-- At each turn what is in front of the rest is removed.
use Rattle.std.proofs.Common.{◌≡◌, ◌++◌, ℕ, List, false, length}
use Rattle.sqlite.specs.Held.{state}
use Rattle.store_rows.specs.Spans.{without_all_of}
use Rattle.staging.proofs.Spans.{AreGone, spans_go}
use Rattle.staging.proofs.removing.take_spans.Given as goal

abbrev pub invariant-spans : goal.invariant-spans
invariant-spans g l = record {
  ended : l.conn.in_transaction ≡ false;
  taken : (front : List ℕ) × (l.fn.numbers ≡ front ++ l.rest)
      × AreGone (λ n. n) without_all_of spans_go front (state g.S.Store l.fn.conn) (state g.S.Store l.conn);
}

abbrev pub decreases-spans : goal.decreases-spans
decreases-spans g l = length l.rest
