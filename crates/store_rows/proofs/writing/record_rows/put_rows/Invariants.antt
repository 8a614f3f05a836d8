-- At each turn, what is left leads from here to where all leads.
use Rattle.std.proofs.Common.{◌≡◌, drop}
use Rattle.sqlite.specs.Held.{state}
use Rattle.store_tables.proofs.Loops.{IsOnTheWay}
use Rattle.store_rows.specs.Writing.{with_record_rows}
use Rattle.store_rows.proofs.writing.record_rows.put_rows.Given as goal

abbrev pub invariant-puts : goal.invariant-puts
invariant-puts g l =
    (l.tx.conn.ghost_name ≡ l.fn.tx.conn.ghost_name)
    × IsOnTheWay (state g.S.Store l.fn.tx.conn.now) (state g.S.Store l.tx.conn.now) (with_record_rows l.puts)
    (with_record_rows (drop l.put-index l.puts))
