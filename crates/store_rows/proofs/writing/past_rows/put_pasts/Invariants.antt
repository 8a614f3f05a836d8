-- At each turn, what is left leads from here to where all leads.
use Rattle.std.proofs.Common.{◌≡◌, drop}
use Rattle.sqlite.specs.Held.{state}
use Rattle.store_rows.specs.Pasts.{with_all_pasts}
use Rattle.store_rows.proofs.Dated.{IsOnItsWay}
use Rattle.store_rows.proofs.writing.past_rows.put_pasts.Given as goal

abbrev pub invariant-pasts : goal.invariant-pasts
invariant-pasts g l =
    (l.tx.conn.ghost_name ≡ l.fn.tx.conn.ghost_name)
    × IsOnItsWay (state g.S.Store l.fn.tx.conn.now) (state g.S.Store l.tx.conn.now)
    (with_all_pasts l.fn.token l.pasts) (with_all_pasts l.fn.token (drop l.past-index l.pasts))
