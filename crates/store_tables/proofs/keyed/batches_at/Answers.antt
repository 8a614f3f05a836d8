use Rattle.std.proofs.Common.{pos, ◌==◌, [], ◌∷◌, filter, ◌∙◌}
use Rattle.sqlite.specs.Held.{state}
use Rattle.sqlite.specs.declared.types.Value.TheVariants.{Int}
use Rattle.store_tables.specs.Reading.{IsU32}
use Rattle.store_tables.specs.Rows.{BatchRow}
use Rattle.store_tables.specs.Shown.{shown_batch}
use Rattle.store_tables.specs.Showing.{ShowsBatch}
use Rattle.store_tables.proofs.Coded.{kept_by}
use Rattle.store_tables.proofs.KeyedQueries.{reads_batch, one_at_most}
use Rattle.store_tables.proofs.KeyedTexts.{batch_at, batch_at_plain}
use Rattle.store_tables.proofs.ReadingRows.{looks_all, looks_where, map_same}
use Rattle.store_tables.proofs.keyed.batches_at.Goals as goal

pub read_all-requires-clause-plain : goal.read_all-requires-clause-plain
read_all-requires-clause-plain g c = batch_at_plain

pub returns-clause-looks : goal.returns-clause-looks
returns-clause-looks g c =
    let old = state g.S.Store c.args.conn.now in
    let new = state g.S.Store c.read_all.new.conn in
    let did = c.read_all.ensures in
    looks_where c.read_all.result
    (λ rows was items is. let e = is ∙ map_same (filter (λ (x : BatchRow). x.no == c.args.number) rows.batches) in
    (e, rw e (one_at_most (λ (x : BatchRow). x.no) c.args.number rows.batches was.good.holds.batches.rise))) (
    looks_all shown_batch (λ (b : BatchRow). b) ShowsBatch (λ (b : BatchRow). IsU32 b.no) (λ items. items.items)
    batch_at
    (Int (pos c.args.number) ∷ []) old new c.read_all.result
    (λ rows. filter (λ (x : BatchRow). x.no == c.args.number) rows.batches)
    (λ rows was all shown. reads_batch old new c.args.number all rows was.schema was.good.holds shown)
    (λ rows t. kept_by _ _ rows.batches t.batches) (rw (c.params-to_sql.ensures) at did.read)
    (rw (c.params-to_sql.ensures) at did.refused) did.same did.crash did.clean)
