use Rattle.std.proofs.Common.{pos, ◌==◌, [], ◌∷◌, filter}
use Rattle.sqlite.specs.Held.{state}
use Rattle.std.proofs.lemmas.List.{length-map}
use Rattle.sqlite.specs.declared.types.Value.TheVariants.{Int}
use Rattle.store_tables.specs.Reading.{IsTypedPack, read_pack}
use Rattle.store_tables.specs.Showing.{ShowsPack}
use Rattle.store_tables.specs.Shown.{shown_pack}
use Rattle.store_tables.specs.Rows.{PackRow}
use Rattle.store_tables.proofs.Coded.{kept_by}
use Rattle.store_tables.proofs.KeyedQueries.{one_at_most}
use Rattle.store_tables.proofs.LaterStatements.{kept_of}
use Rattle.store_tables.proofs.PackQueries.{reads_pack_at}
use Rattle.store_tables.proofs.PackTexts.{pack_at, pack_at_plain}
use Rattle.store_tables.proofs.Packing.{looks_typed}
use Rattle.store_tables.proofs.ReadingRows.{looks_where}
use Rattle.store_tables.proofs.keyed.packs_at.Goals as goal

pub read_all-requires-clause-plain : goal.read_all-requires-clause-plain
read_all-requires-clause-plain g c = pack_at_plain

pub returns-clause-looks : goal.returns-clause-looks
returns-clause-looks g c =
    let old = state g.S.Store c.args.conn.now in
    let new = state g.S.Store c.read_all.new.conn in
    let did = c.read_all.ensures in
    looks_where c.read_all.result
    (λ rows was items is.
    let found = filter (λ (x : PackRow). x.no == c.args.number) rows.packs in
    let second = c.requires.second rows.has_spans was.schema in (
      is,
      rw (is, length-map found read_pack)
          (one_at_most (λ (x : PackRow). x.no) c.args.number rows.packs
          (kept_of rows old.now.trees second was.good.holds).packs_kept.rise),
    )) (
    looks_typed IsTypedPack shown_pack read_pack ShowsPack (λ items. items.items) pack_at
    (Int (pos c.args.number) ∷ []) old new c.read_all.result
    (λ rows. filter (λ (x : PackRow). x.no == c.args.number) rows.packs)
    (λ rows was all shown. reads_pack_at old new c.args.number all rows
    (c.requires.second rows.has_spans was.schema) was shown)
    (λ rows t. kept_by _ _ rows.packs t.packs) (rw (c.params-to_sql.ensures) at did.read)
    (rw (c.params-to_sql.ensures) at did.refused) did.same did.crash did.clean)
