-- At each turn, what is left leads from here to where all leads.
use Rattle.std.proofs.Common.{◌≡◌, drop}
use Rattle.sqlite.specs.Held.{state}
use Rattle.store_rows.specs.Sought.{without_all_sought}
use Rattle.store_rows.proofs.Dated.{IsOnItsWay}
use Rattle.store_rows.proofs.writing.sought_rows.remove_sought.Given as goal

abbrev pub invariant-numbers : goal.invariant-numbers
invariant-numbers g l =
    (l.tx.conn.ghost_name ≡ l.fn.tx.conn.ghost_name)
    × IsOnItsWay (state g.S.Store l.fn.tx.conn.now) (state g.S.Store l.tx.conn.now) (without_all_sought l.numbers)
    (without_all_sought (drop l.number-index l.numbers))
