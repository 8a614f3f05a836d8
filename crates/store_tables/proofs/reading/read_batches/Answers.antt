use Rattle.std.proofs.Common.{◌∙◌, []}
use Rattle.sqlite.specs.Held.{state}
use Rattle.store_tables.specs.Reading.{IsU32}
use Rattle.store_tables.specs.Rows.{BatchRow}
use Rattle.store_tables.specs.Shown.{shown_batch}
use Rattle.store_tables.specs.Showing.{ShowsBatch}
use Rattle.store_tables.proofs.Calls.{if_ok}
use Rattle.store_tables.proofs.Queries.{reads_batches}
use Rattle.store_tables.proofs.ReadingRows.{looks_all, looks_as, map_same}
use Rattle.store_tables.proofs.Showing.{shows_each}
use Rattle.store_tables.proofs.Texts.{select_batches, select_batches_plain}
use Rattle.store_tables.proofs.reading.read_batches.Goals as goal

pub read_all-requires-clause-plain : goal.read_all-requires-clause-plain
read_all-requires-clause-plain g c = select_batches_plain

pub returns-clause-looks : goal.returns-clause-looks
returns-clause-looks g c =
    let old = state g.S.Store c.args.conn.now in
    let new = state g.S.Store c.read_all.new.conn in
    let did = c.read_all.ensures in
    looks_as c.read_all.result (λ rows items is. is ∙ map_same rows.batches) (
    looks_all shown_batch (λ (b : BatchRow). b) ShowsBatch (λ (b : BatchRow). IsU32 b.no) (λ items. items.items)
    select_batches
    [] old new c.read_all.result (λ rows. rows.batches)
    (λ rows was all shown. reads_batches old new all rows was.schema was.good.holds shown)
    (λ rows t. t.batches) did.read did.refused did.same did.crash did.clean)

pub returns-clause-shown : goal.returns-clause-shown
returns-clause-shown g c clean has_spans has =
    if_ok c.read_all.result
    (λ items. shows_each shown_batch (λ (b : BatchRow). b) ShowsBatch select_batches (state g.S.Store c.args.conn.now)
    (state g.S.Store c.read_all.new.conn) items.items) (c.read_all.ensures.read clean)
