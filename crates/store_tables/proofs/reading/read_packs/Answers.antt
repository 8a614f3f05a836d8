use Rattle.std.proofs.Common.{[]}
use Rattle.sqlite.specs.Held.{state}
use Rattle.store_tables.specs.Reading.{IsTypedPack, read_pack}
use Rattle.store_tables.specs.Showing.{ShowsPack}
use Rattle.store_tables.specs.Shown.{shown_pack}
use Rattle.store_tables.proofs.Calls.{if_ok}
use Rattle.store_tables.proofs.PackQueries.{reads_packs}
use Rattle.store_tables.proofs.PackTexts.{select_packs, select_packs_plain}
use Rattle.store_tables.proofs.Packing.{items_shown, looks_typed}
use Rattle.store_tables.proofs.reading.read_packs.Goals as goal

pub read_all-requires-clause-plain : goal.read_all-requires-clause-plain
read_all-requires-clause-plain g c = select_packs_plain

pub returns-clause-looks : goal.returns-clause-looks
returns-clause-looks g c =
    let old = state g.S.Store c.args.conn.now in
    let new = state g.S.Store c.read_all.new.conn in
    let did = c.read_all.ensures in
    looks_typed IsTypedPack shown_pack read_pack ShowsPack (λ items. items.items) select_packs [] old new
    c.read_all.result (λ rows. rows.packs)
    (λ rows was all shown. reads_packs old new all rows (c.requires.second rows.has_spans was.schema) was shown)
    (λ rows t. t.packs) did.read did.refused did.same did.crash did.clean

pub returns-clause-shown : goal.returns-clause-shown
returns-clause-shown g c clean has_spans has =
    if_ok c.read_all.result
    (λ items was. (
      was.0,
      was.1,
      items_shown IsTypedPack shown_pack read_pack ShowsPack was.0 items.items was.2,
    )) (c.read_all.ensures.read clean)
