use Rattle.std.proofs.Common.{pos, ◌==◌, [], ◌∷◌, filter, map, ◌∙◌, sym}
use Rattle.sqlite.specs.Held.{state}
use Rattle.sqlite.specs.declared.types.Value.TheVariants.{Int}
use Rattle.store_tables.specs.Reading.{IsU32}
use Rattle.store_tables.specs.Rows.{LineRow, RecordRow}
use Rattle.store_tables.proofs.BatchQueries.{as_line, reads_numbers_in, typed_numbers}
use Rattle.store_tables.proofs.BatchTexts.{numbers_in, numbers_in_plain}
use Rattle.store_tables.specs.Showing.{ShowsNumber}
use Rattle.store_tables.proofs.ReadingRows.{looks_all, looks_as}
use Rattle.store_tables.proofs.batches.numbers_in.Goals as goal
use Rattle.list_laws.proofs.Lists.{map_map}

pub read_all-requires-clause-plain : goal.read_all-requires-clause-plain
read_all-requires-clause-plain g c = numbers_in_plain

pub returns-clause-looks : goal.returns-clause-looks
returns-clause-looks g c =
    let old = state g.S.Store c.args.conn.now in
    let new = state g.S.Store c.read_all.new.conn in
    let did = c.read_all.ensures in
    looks_as c.read_all.result (λ rows items is. is ∙ map_map _ _ _)
    (looks_all (λ (l : LineRow). Int (pos l.no) ∷ []) (λ (l : LineRow). l.no) ShowsNumber
    (λ (l : LineRow). IsU32 l.no) (λ items. items.items) numbers_in (Int (pos c.args.batch) ∷ []) old new
    c.read_all.result
    (λ rows. map as_line (filter (λ (r : RecordRow). r.batch == c.args.batch) rows.records))
    (λ rows was all shown. reads_numbers_in old new c.args.batch all rows was.schema was.good.holds shown
    ∙ sym (map_map _ _ _)) (λ rows t. typed_numbers c.args.batch rows t) (rw (c.params-to_sql.ensures) at did.read)
    (rw (c.params-to_sql.ensures) at did.refused) did.same did.crash did.clean)
