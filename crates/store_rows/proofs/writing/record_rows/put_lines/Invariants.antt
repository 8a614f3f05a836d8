-- At each turn, what is left leads from here to where all leads, and all are shallow where those left are.
use Rattle.std.proofs.Common.{◌≡◌, drop}
use Rattle.sqlite.specs.Held.{state}
use Rattle.store_tables.proofs.Loops.{IsOnTheWay}
use Rattle.record_shapes.specs.Lists.{EachOf}
use Rattle.store_rows.specs.Shallow.{IsShallowPut}
use Rattle.store_rows.specs.Writing.{with_all_lines}
use Rattle.store_rows.proofs.writing.record_rows.put_lines.Given as goal

abbrev pub invariant-puts : goal.invariant-puts
invariant-puts g l =
    (l.tx.conn.ghost_name ≡ l.fn.tx.conn.ghost_name)
    × IsOnTheWay (state g.S.Store l.fn.tx.conn.now) (state g.S.Store l.tx.conn.now) (with_all_lines l.puts)
    (with_all_lines (drop l.put-index l.puts))
    × (EachOf IsShallowPut (drop l.put-index l.puts) → EachOf IsShallowPut l.puts)
