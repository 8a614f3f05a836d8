use Rattle.std.proofs.Common.{rules}
use Rattle.sqlite.specs.Held.{state}
use Rattle.store_tables.proofs.ReadingRows.{looks_lost, looks_then}
use Rattle.table_looks.proofs.Shown.{shown_behind}
use Rattle.table_looks.proofs.reading.read_beside.Goals as goal

pub returns-clause-shown : goal.returns-clause-shown
returns-clause-shown g c clean has =
    let soughts = c.in_ok-soughts.ensures in
    let links = c.in_ok-links.ensures in
    let third = soughts.looks.clean clean in
    shown_behind (state g.S.Store c.args.conn.now) (state g.S.Store c.read_spans.new.conn)
    (state g.S.Store c.read_links.new.conn) (state g.S.Store c.read_soughts.new.conn) _ has
    (c.in_ok-spans.ensures.shown (links.looks.clean third) has) (links.shown third) (soughts.shown clean)

pub returns-in_err-links-clause-looks : goal.returns-in_err-links-clause-looks
returns-in_err-links-clause-looks g c =
    looks_lost c.from_residual-in_err-links.result (search rules) c.in_ok-spans.ensures.looks
    c.in_err-links.ensures.looks

pub returns-in_err-soughts-clause-looks : goal.returns-in_err-soughts-clause-looks
returns-in_err-soughts-clause-looks g c =
    looks_lost c.from_residual-in_err-soughts.result (search rules)
    (looks_then c.in_ok-spans.ensures.looks c.in_ok-links.ensures.looks) c.in_err-soughts.ensures.looks
