-- At each side, what was done of all is what the tables hold.
use Rattle.std.proofs.Common.{◌≡◌, drop}
use Rattle.sqlite.specs.Held.{state}
use Rattle.store_tables.proofs.SidePlaces.{IsSoFar}
use Rattle.store_tables.proofs.sides.write_sides.Given as goal

abbrev pub invariant-sides : goal.invariant-sides
invariant-sides g l =
    (l.tx.conn.ghost_name ≡ l.fn.tx.conn.ghost_name)
    × IsSoFar (state g.S.Store l.fn.tx.conn.now) (state g.S.Store l.tx.conn.now) l.slip l.sides
    (drop l.side-index l.sides) l.at
