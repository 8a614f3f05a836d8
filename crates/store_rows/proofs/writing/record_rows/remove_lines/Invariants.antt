-- At each turn, what is left leads from here to where all leads.
use Rattle.std.proofs.Common.{◌≡◌, drop}
use Rattle.sqlite.specs.Held.{state}
use Rattle.store_tables.proofs.Loops.{IsOnTheWay}
use Rattle.store_rows.specs.Writing.{without_all_lines}
use Rattle.store_rows.proofs.writing.record_rows.remove_lines.Given as goal

abbrev pub invariant-numbers : goal.invariant-numbers
invariant-numbers g l =
    (l.tx.conn.ghost_name ≡ l.fn.tx.conn.ghost_name)
    × IsOnTheWay (state g.S.Store l.fn.tx.conn.now) (state g.S.Store l.tx.conn.now) (without_all_lines l.numbers)
    (without_all_lines (drop l.number-index l.numbers))
