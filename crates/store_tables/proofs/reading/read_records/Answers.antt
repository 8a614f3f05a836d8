use Rattle.std.proofs.Common.{[]}
use Rattle.sqlite.specs.Held.{state}
use Rattle.store_tables.specs.Reading.{IsU32, read_record}
use Rattle.store_tables.specs.Rows.{RecordRow}
use Rattle.store_tables.specs.Shown.{shown_record}
use Rattle.store_tables.specs.Showing.{ShowsRecord}
use Rattle.store_tables.proofs.Calls.{if_ok}
use Rattle.store_tables.proofs.Queries.{reads_records}
use Rattle.store_tables.proofs.ReadingRows.{looks_all}
use Rattle.store_tables.proofs.Showing.{shows_each}
use Rattle.store_tables.proofs.Texts.{select_records, select_records_plain}
use Rattle.store_tables.proofs.reading.read_records.Goals as goal

pub read_all-requires-clause-plain : goal.read_all-requires-clause-plain
read_all-requires-clause-plain g c = select_records_plain

pub returns-clause-looks : goal.returns-clause-looks
returns-clause-looks g c =
    let old = state g.S.Store c.args.conn.now in
    let new = state g.S.Store c.read_all.new.conn in
    let did = c.read_all.ensures in
    looks_all shown_record read_record ShowsRecord (λ (r : RecordRow). IsU32 r.no × IsU32 r.batch) (λ items.
    items.items)
    select_records [] old new c.read_all.result (λ rows. rows.records)
    (λ rows was all shown. reads_records old new all rows was.schema was.good.holds shown)
    (λ rows t. t.records) did.read did.refused did.same did.crash did.clean

pub returns-clause-shown : goal.returns-clause-shown
returns-clause-shown g c clean has_spans has =
    if_ok c.read_all.result
    (λ items. shows_each shown_record read_record ShowsRecord select_records (state g.S.Store c.args.conn.now)
    (state g.S.Store c.read_all.new.conn) items.items) (c.read_all.ensures.read clean)
