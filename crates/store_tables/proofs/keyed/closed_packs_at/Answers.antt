use Rattle.std.proofs.Common.{pos, ◌==◌, [], ◌∷◌, filter}
use Rattle.sqlite.specs.Held.{state}
use Rattle.std.proofs.lemmas.List.{length-map}
use Rattle.sqlite.specs.declared.types.Value.TheVariants.{Int}
use Rattle.store_tables.specs.Keyed.{closed_packs_at, is_of_closed}
use Rattle.store_tables.specs.Reading.{IsTypedPack, read_pack}
use Rattle.store_tables.specs.Rows.{PackRow}
use Rattle.store_tables.specs.Showing.{ShowsPack}
use Rattle.store_tables.specs.Shown.{shown_pack}
use Rattle.store_tables.proofs.ClosedQueries.{closed_few, closed_typed, reads_closed_pack}
use Rattle.store_tables.proofs.Packing.{looks_typed}
use Rattle.store_tables.proofs.PackTexts.{closed_pack_at, closed_pack_at_plain}
use Rattle.store_tables.proofs.ReadingRows.{looks_where}
use Rattle.store_tables.proofs.keyed.closed_packs_at.Goals as goal

pub read_all-requires-clause-plain : goal.read_all-requires-clause-plain
read_all-requires-clause-plain g c = closed_pack_at_plain

pub returns-clause-looks : goal.returns-clause-looks
returns-clause-looks g c =
    let old = state g.S.Store c.args.conn.now in
    let new = state g.S.Store c.read_all.new.conn in
    let did = c.read_all.ensures in
    let n = c.args.number in
    looks_where c.read_all.result
    (λ rows was items is. (
      is,
      rw (is, length-map (closed_packs_at n rows) read_pack)
          (closed_few n rows old.now.trees (c.requires.second rows.has_spans was.schema) was.good.holds),
    )) (
    looks_typed IsTypedPack shown_pack read_pack ShowsPack (λ items. items.items) closed_pack_at (Int (pos n) ∷ []) old
    new c.read_all.result (closed_packs_at n)
    (λ rows was all shown. reads_closed_pack old new n all rows (c.requires.second rows.has_spans was.schema) was shown)
    (λ rows t. closed_typed n rows t) (rw (c.params-to_sql.ensures) at did.read)
    (rw (c.params-to_sql.ensures) at did.refused) did.same did.crash did.clean)
