-- At each turn, what is left leads from here to where all leads.
use Rattle.std.proofs.Common.{◌≡◌, drop}
use Rattle.sqlite.specs.Held.{state}
use Rattle.older_archives.specs.Renewing.{with_slips_anew}
use Rattle.older_archives.proofs.writing.write_slips.Given as goal
use Rattle.store_rows.proofs.Dated.{IsOnItsWay}

abbrev pub invariant-slips : goal.invariant-slips
invariant-slips g l =
    (l.tx.conn.ghost_name ≡ l.fn.tx.conn.ghost_name)
    × IsOnItsWay (state g.S.Store l.fn.tx.conn.now) (state g.S.Store l.tx.conn.now) (with_slips_anew l.slips)
    (with_slips_anew (drop l.slip-index l.slips))
