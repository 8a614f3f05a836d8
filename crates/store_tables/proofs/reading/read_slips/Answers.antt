use Rattle.std.proofs.Common.{◌∙◌, []}
use Rattle.sqlite.specs.Held.{state}
use Rattle.store_tables.specs.Reading.{IsTypedSlip}
use Rattle.store_tables.specs.Rows.{SlipRow}
use Rattle.store_tables.specs.Shown.{shown_slip}
use Rattle.store_tables.specs.Showing.{ShowsSlip}
use Rattle.store_tables.proofs.Calls.{if_ok}
use Rattle.store_tables.proofs.Queries.{reads_slips}
use Rattle.store_tables.proofs.ReadingRows.{looks_all, looks_as, map_same}
use Rattle.store_tables.proofs.Showing.{shows_each}
use Rattle.store_tables.proofs.Texts.{select_slips, select_slips_plain}
use Rattle.store_tables.proofs.reading.read_slips.Goals as goal

pub read_all-requires-clause-plain : goal.read_all-requires-clause-plain
read_all-requires-clause-plain g c = select_slips_plain

pub returns-clause-looks : goal.returns-clause-looks
returns-clause-looks g c =
    let old = state g.S.Store c.args.conn.now in
    let new = state g.S.Store c.read_all.new.conn in
    let did = c.read_all.ensures in
    looks_as c.read_all.result (λ rows items is. is ∙ map_same rows.slips) (
    looks_all shown_slip (λ (s : SlipRow). s) ShowsSlip IsTypedSlip (λ items. items.items) select_slips
    [] old new c.read_all.result (λ rows. rows.slips)
    (λ rows was all shown. reads_slips old new all rows was.schema was.good.holds shown)
    (λ rows t. t.slips) did.read did.refused did.same did.crash did.clean)

pub returns-clause-shown : goal.returns-clause-shown
returns-clause-shown g c clean has_spans has =
    if_ok c.read_all.result
    (λ items. shows_each shown_slip (λ (s : SlipRow). s) ShowsSlip select_slips (state g.S.Store c.args.conn.now)
    (state g.S.Store c.read_all.new.conn) items.items) (c.read_all.ensures.read clean)
