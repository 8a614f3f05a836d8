use Rattle.std.proofs.Common.{rules, Ok, ℕ, List, [], ◌∷◌, ap, sym, subst, ◌∙◌}
use Rattle.sqlite.specs.Held.{state}
use Rattle.store_tables.specs.Looking.{meta_query}
use Rattle.store_tables.specs.Showing.{ShowsEach, ShowsMeta}
use Rattle.store_tables.proofs.ReadingRows.{looks_lost, looks_then, looks_with, read_whole}
use Rattle.store_tables.proofs.Showing.{shows_read}
use Rattle.store_tables.proofs.reading.read_rows.Goals as goal

pub returns-in_err-batches-clause-looks : goal.returns-in_err-batches-clause-looks
returns-in_err-batches-clause-looks g c =
    looks_lost c.from_residual-in_err-batches.result (search rules) c.in_ok-meta.ensures.looks
    c.in_err-batches.ensures.looks

pub returns-in_err-lines-clause-looks : goal.returns-in_err-lines-clause-looks
returns-in_err-lines-clause-looks g c =
    looks_lost c.from_residual-in_err-lines.result (search rules)
    (looks_then c.in_ok-meta.ensures.looks c.in_ok-batches.ensures.looks) c.in_err-lines.ensures.looks

pub returns-in_err-receipts-clause-looks : goal.returns-in_err-receipts-clause-looks
returns-in_err-receipts-clause-looks g c =
    looks_lost c.from_residual-in_err-receipts.result (search rules)
    (looks_then (looks_then c.in_ok-meta.ensures.looks c.in_ok-batches.ensures.looks) c.in_ok-lines.ensures.looks)
    c.in_err-receipts.ensures.looks

pub returns-clause-looks : goal.returns-clause-looks
returns-clause-looks g c =
    looks_with (Ok _)
    (looks_then (looks_then (looks_then c.in_ok-meta.ensures.looks c.in_ok-batches.ensures.looks)
    c.in_ok-lines.ensures.looks) c.in_ok-receipts.ensures.looks)
    (λ rows is. read_whole rows _ (ap (λ (p : ℕ × List ℕ). p.0) (c.meta.view_is ∙ is.0.0.0)) is.0.0.1 is.0.1 is.1) tt

pub returns-clause-shown : goal.returns-clause-shown
returns-clause-shown g c clean has_spans has =
    let clean_three = c.in_ok-receipts.ensures.looks.clean clean in
    let clean_two = c.in_ok-lines.ensures.looks.clean clean_three in
    let clean_one = c.in_ok-batches.ensures.looks.clean clean_two in
    shows_read (state g.S.Store c.args.conn.now) (state g.S.Store c.read_meta.new.conn)
    (state g.S.Store c.read_records_by_batch.new.conn) (state g.S.Store c.read_stored.new.conn)
    (state g.S.Store c.read_history.new.conn) _ _ has_spans has
    (subst (λ meta. ShowsEach meta_query ShowsMeta (state g.S.Store c.args.conn.now)
    (state g.S.Store c.read_meta.new.conn) (meta ∷ [])) (sym c.meta.view_is)
    (c.in_ok-meta.ensures.shown clean_one has_spans has)) (c.in_ok-batches.ensures.shown clean_two has_spans)
    (c.in_ok-lines.ensures.shown clean_three has_spans) (c.in_ok-receipts.ensures.shown clean has_spans)
