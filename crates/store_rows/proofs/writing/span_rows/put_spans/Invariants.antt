-- At each turn, spans are drawn of what was gone over, and lead from the start to here.
use Rattle.std.proofs.Common.{◌≡◌, drop}
use Rattle.sqlite.specs.Held.{state}
use Rattle.store_rows.proofs.Dated.{AreOnTheirWay}
use Rattle.store_rows.proofs.writing.span_rows.put_spans.Given as goal

abbrev pub invariant-puts : goal.invariant-puts
invariant-puts g l =
    (l.tx.conn.ghost_name ≡ l.fn.tx.conn.ghost_name)
    × AreOnTheirWay (state g.S.Store l.fn.tx.conn.now) (state g.S.Store l.tx.conn.now) l.puts
    (drop l.put-index l.puts)
