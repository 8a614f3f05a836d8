use Rattle.std.proofs.Common.{pos, ◌==◌, [], ◌∷◌, filter}
use Rattle.sqlite.specs.Held.{state}
use Rattle.std.proofs.lemmas.List.{length-map}
use Rattle.sqlite.specs.declared.types.Value.TheVariants.{Int}
use Rattle.store_tables.specs.Reading.{IsU32, read_record}
use Rattle.store_tables.specs.Rows.{RecordRow}
use Rattle.store_tables.specs.Shown.{shown_record}
use Rattle.store_tables.specs.Showing.{ShowsRecord}
use Rattle.store_tables.proofs.Coded.{kept_by}
use Rattle.store_tables.proofs.KeyedQueries.{reads_record, one_at_most}
use Rattle.store_tables.proofs.KeyedTexts.{record_at, record_at_plain}
use Rattle.store_tables.proofs.ReadingRows.{looks_all, looks_where}
use Rattle.store_tables.proofs.keyed.records_at.Goals as goal

pub read_all-requires-clause-plain : goal.read_all-requires-clause-plain
read_all-requires-clause-plain g c = record_at_plain

pub returns-clause-looks : goal.returns-clause-looks
returns-clause-looks g c =
    let old = state g.S.Store c.args.conn.now in
    let new = state g.S.Store c.read_all.new.conn in
    let did = c.read_all.ensures in
    looks_where c.read_all.result
    (λ rows was items is. let found = filter (λ (x : RecordRow). x.no == c.args.number) rows.records in (
      is,
      rw (is, length-map found read_record)
          (one_at_most (λ (x : RecordRow). x.no) c.args.number rows.records was.good.holds.records.rise),
    )) (
    looks_all shown_record read_record ShowsRecord (λ (r : RecordRow). IsU32 r.no × IsU32 r.batch) (λ items.
    items.items) record_at
    (Int (pos c.args.number) ∷ []) old new c.read_all.result
    (λ rows. filter (λ (x : RecordRow). x.no == c.args.number) rows.records)
    (λ rows was all shown. reads_record old new c.args.number all rows was.schema was.good.holds shown)
    (λ rows t. kept_by _ _ rows.records t.records) (rw (c.params-to_sql.ensures) at did.read)
    (rw (c.params-to_sql.ensures) at did.refused) did.same did.crash did.clean)
