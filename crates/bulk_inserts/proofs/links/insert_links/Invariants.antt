-- What is left of the links leads from here to where all lead.
use Rattle.std.proofs.Common.{◌≡◌, length}
use Rattle.sqlite.specs.Held.{state}
use Rattle.bulk_inserts.proofs.Joined.{IsOnTheWay}
use Rattle.bulk_inserts.proofs.links.insert_links.Given as goal

abbrev pub invariant-eights : goal.invariant-eights
invariant-eights g l = record {
  same : l.tx.conn.ghost_name ≡ l.fn.tx.conn.ghost_name;
  way : IsOnTheWay (state g.S.Store l.fn.tx.conn.now) (state g.S.Store l.tx.conn.now) l.links l.rest;
}

abbrev pub decreases-eights : goal.decreases-eights
decreases-eights g l = length l.rest

abbrev pub invariant-singles : goal.invariant-singles
invariant-singles g l = record {
  same : l.tx.conn.ghost_name ≡ l.fn.tx.conn.ghost_name;
  way : IsOnTheWay (state g.S.Store l.fn.tx.conn.now) (state g.S.Store l.tx.conn.now) l.links l.rest;
}

abbrev pub decreases-singles : goal.decreases-singles
decreases-singles g l = length l.rest
