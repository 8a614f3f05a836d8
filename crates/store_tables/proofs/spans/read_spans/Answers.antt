use Rattle.std.proofs.Common.{◌∙◌, []}
use Rattle.sqlite.specs.Held.{state}
use Rattle.store_tables.specs.Reading.{IsTypedSpan}
use Rattle.store_tables.specs.Rows.{SpanRow}
use Rattle.store_tables.specs.Shown.{shown_span}
use Rattle.store_tables.specs.Showing.{ShowsSpan}
use Rattle.store_tables.proofs.Calls.{if_ok}
use Rattle.store_tables.proofs.ReadingRows.{looks_all, looks_as, map_same}
use Rattle.store_tables.proofs.Showing.{shows_each}
use Rattle.store_tables.proofs.SpanQueries.{reads_spans}
use Rattle.store_tables.proofs.SpanTexts.{select_spans, spans_of_second}
use Rattle.store_tables.proofs.spans.read_spans.Goals as goal

pub read_later-requires-clause-later : goal.read_later-requires-clause-later
read_later-requires-clause-later g c = spans_of_second

pub returns-clause-looks : goal.returns-clause-looks
returns-clause-looks g c =
    let old = state g.S.Store c.args.conn.now in
    let new = state g.S.Store c.read_later.new.conn in
    let did = c.read_later.ensures in
    looks_as c.read_later.result (λ rows items is dated. is ∙ map_same rows.spans) (
    looks_all shown_span (λ (s : SpanRow). s) ShowsSpan IsTypedSpan (λ items. items.items) select_spans [] old new
    c.read_later.result (λ rows. rows.spans) (λ rows was all shown. reads_spans old new all rows was shown)
    (λ rows t. t.spans) did.read did.refused did.same did.crash did.clean)

pub returns-clause-shown : goal.returns-clause-shown
returns-clause-shown g c clean has =
    if_ok c.read_later.result
    (λ items. shows_each shown_span (λ (s : SpanRow). s) ShowsSpan select_spans (state g.S.Store c.args.conn.now)
    (state g.S.Store c.read_later.new.conn) items.items) (c.read_later.ensures.read clean)
