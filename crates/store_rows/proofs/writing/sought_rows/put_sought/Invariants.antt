-- At each turn, what is left leads from here to where all leads.
use Rattle.std.proofs.Common.{◌≡◌, drop}
use Rattle.sqlite.specs.Held.{state}
use Rattle.store_rows.specs.Sought.{with_all_sought}
use Rattle.store_rows.proofs.Dated.{IsOnItsWay}
use Rattle.store_rows.proofs.writing.sought_rows.put_sought.Given as goal

abbrev pub invariant-puts : goal.invariant-puts
invariant-puts g l =
    (l.tx.conn.ghost_name ≡ l.fn.tx.conn.ghost_name)
    × IsOnItsWay (state g.S.Store l.fn.tx.conn.now) (state g.S.Store l.tx.conn.now) (with_all_sought l.puts)
    (with_all_sought (drop l.put-index l.puts))
