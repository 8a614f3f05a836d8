use Rattle.std.proofs.Common.{rules}
use Rattle.sqlite.specs.Held.{state}
use Rattle.store_tables.proofs.ReadingRows.{looks_lost, looks_then}
use Rattle.store_tables.proofs.Showing.{shows_history}
use Rattle.store_tables.proofs.reading.read_history.Goals as goal

pub returns-in_err-slips-clause-looks : goal.returns-in_err-slips-clause-looks
returns-in_err-slips-clause-looks g c =
    looks_lost c.from_residual-in_err-slips.result (search rules) c.in_ok-receipts.ensures.looks
    c.in_err-slips.ensures.looks

pub returns-in_err-slip_lines-clause-looks : goal.returns-in_err-slip_lines-clause-looks
returns-in_err-slip_lines-clause-looks g c =
    looks_lost c.from_residual-in_err-slip_lines.result (search rules)
    (looks_then c.in_ok-receipts.ensures.looks c.in_ok-slips.ensures.looks) c.in_err-slip_lines.ensures.looks

pub returns-clause-shown : goal.returns-clause-shown
returns-clause-shown g c clean has_spans has =
    let clean_two = c.in_ok-slip_lines.ensures.looks.clean clean in
    let clean_one = c.in_ok-slips.ensures.looks.clean clean_two in
    shows_history (state g.S.Store c.args.conn.now) (state g.S.Store c.read_receipts.new.conn)
    (state g.S.Store c.read_slips.new.conn) (state g.S.Store c.read_sides.new.conn) _
    _ _ has_spans has (c.in_ok-receipts.ensures.shown clean_one has_spans has)
    (c.in_ok-slips.ensures.shown clean_two has_spans) (c.in_ok-slip_lines.ensures.shown clean has_spans)
