-- What is left of the rows leads from here to where all lead.
use Rattle.std.proofs.Common.{◌≡◌, length}
use Rattle.sqlite.specs.Held.{state}
use Rattle.store_tables.proofs.Loops.{IsOnTheWay}
use Rattle.bulk_inserts.specs.Records.{with_records}
use Rattle.bulk_inserts.proofs.records.insert_records.Given as goal

abbrev pub invariant-fours : goal.invariant-fours
invariant-fours g l = record {
  same : l.tx.conn.ghost_name ≡ l.fn.tx.conn.ghost_name;
  way : IsOnTheWay (state g.S.Store l.fn.tx.conn.now) (state g.S.Store l.tx.conn.now) (with_records l.batch l.records)
      (with_records l.batch l.rest);
}

abbrev pub decreases-fours : goal.decreases-fours
decreases-fours g l = length l.rest

abbrev pub invariant-singles : goal.invariant-singles
invariant-singles g l = record {
  same : l.tx.conn.ghost_name ≡ l.fn.tx.conn.ghost_name;
  way : IsOnTheWay (state g.S.Store l.fn.tx.conn.now) (state g.S.Store l.tx.conn.now) (with_records l.batch l.records)
      (with_records l.batch l.rest);
}

abbrev pub decreases-singles : goal.decreases-singles
decreases-singles g l = length l.rest
