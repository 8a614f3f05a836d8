use Rattle.std.proofs.Common.{◌∷◌, []}
use Rattle.sqlite.specs.Held.{state}
use Rattle.record_text.specs.Text.{IsText}
use Rattle.store_tables.specs.Conversion.{read_meta}
use Rattle.store_tables.specs.Rows.{Rows}
use Rattle.store_tables.specs.Shown.{shown_meta}
use Rattle.store_tables.specs.Showing.{ShowsMeta}
use Rattle.store_tables.proofs.Calls.{if_ok}
use Rattle.store_tables.proofs.Queries.{reads_meta}
use Rattle.store_tables.proofs.ReadingRows.{looks_all}
use Rattle.store_tables.proofs.Showing.{shows_each}
use Rattle.store_tables.proofs.Texts.{select_meta, select_meta_plain}
use Rattle.store_tables.proofs.reading.read_meta_rows.Goals as goal

pub read_all-requires-clause-plain : goal.read_all-requires-clause-plain
read_all-requires-clause-plain g c = select_meta_plain

pub returns-clause-looks : goal.returns-clause-looks
returns-clause-looks g c =
    let old = state g.S.Store c.args.conn.now in
    let new = state g.S.Store c.read_all.new.conn in
    let did = c.read_all.ensures in
    looks_all shown_meta read_meta ShowsMeta (λ (r : Rows). IsText r.society) (λ items. items.items) select_meta
    [] old new c.read_all.result (λ rows. rows ∷ [])
    (λ rows was all shown. reads_meta old new all rows was.schema was.good.holds shown)
    (λ rows t. (t.society, tt)) did.read did.refused did.same did.crash did.clean

pub returns-clause-shown : goal.returns-clause-shown
returns-clause-shown g c clean has_spans has =
    if_ok c.read_all.result
    (λ items. shows_each shown_meta read_meta ShowsMeta select_meta (state g.S.Store c.args.conn.now)
    (state g.S.Store c.read_all.new.conn) items.items) (c.read_all.ensures.read clean)
