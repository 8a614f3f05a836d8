-- At each turn, so many of the rows that were left are written as there is no room for any more.
use Rattle.std.proofs.Common.{◌≡◌, ◌≤◌, ◌-◌, drop}
use Rattle.sqlite.specs.Held.{state}
use Rattle.staging.specs.Opened.{IsPlaced, left_of}
use Rattle.staging.proofs.Cursors.{IsStaged}
use Rattle.staging.proofs.writing.write_rows.Given as goal

abbrev pub invariant-rows : goal.invariant-rows
invariant-rows g l = record {
  same : l.tx.conn.ghost_name ≡ l.fn.tx.conn.ghost_name;
  few : l.room ≤ 256;
  placed : IsPlaced l.puts l.cursor;
  left : left_of l.batch l.puts l.later l.cursor ≡ drop (256 - l.room) (left_of l.batch l.puts l.later l.fn.cursor);
  way : IsStaged (state g.S.Store l.fn.tx.conn.now) (state g.S.Store l.tx.conn.now)
      (left_of l.batch l.puts l.later l.fn.cursor) (256 - l.room);
}

abbrev pub decreases-rows : goal.decreases-rows
decreases-rows g l = l.room
