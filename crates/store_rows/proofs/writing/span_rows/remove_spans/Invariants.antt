-- At each turn, what is left leads from here to where all leads.
use Rattle.std.proofs.Common.{◌≡◌, drop}
use Rattle.sqlite.specs.Held.{state}
use Rattle.store_rows.specs.Spans.{without_all_spans}
use Rattle.store_rows.proofs.Dated.{IsOnItsWay}
use Rattle.store_rows.proofs.writing.span_rows.remove_spans.Given as goal

abbrev pub invariant-numbers : goal.invariant-numbers
invariant-numbers g l =
    (l.tx.conn.ghost_name ≡ l.fn.tx.conn.ghost_name)
    × IsOnItsWay (state g.S.Store l.fn.tx.conn.now) (state g.S.Store l.tx.conn.now) (without_all_spans l.numbers)
    (without_all_spans (drop l.number-index l.numbers))
