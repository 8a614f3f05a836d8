-- At each turn, what is left leads from here to where all leads.
use Rattle.std.proofs.Common.{◌≡◌, drop}
use Rattle.sqlite.specs.Held.{state}
use Rattle.older_archives.specs.Renewing.{with_records_anew}
use Rattle.older_archives.proofs.writing.write_records.Given as goal
use Rattle.store_rows.proofs.Dated.{IsOnItsWay}

abbrev pub invariant-records : goal.invariant-records
invariant-records g l =
    (l.tx.conn.ghost_name ≡ l.fn.tx.conn.ghost_name)
    × IsOnItsWay (state g.S.Store l.fn.tx.conn.now) (state g.S.Store l.tx.conn.now) (with_records_anew l.records)
    (with_records_anew (drop l.record-index l.records))
