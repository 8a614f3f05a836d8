use Rattle.std.proofs.Common.{[]}
use Rattle.sqlite.specs.Held.{state}
use Rattle.store_tables.specs.Reading.{IsTypedSlipPack, read_slip_pack}
use Rattle.store_tables.specs.Shown.{shown_slip_pack}
use Rattle.store_tables.specs.Showing.{ShowsSlipPack}
use Rattle.store_tables.proofs.Calls.{if_ok}
use Rattle.store_tables.proofs.Packing.{items_shown, looks_typed}
use Rattle.store_tables.proofs.SideQueries.{reads_slip_packs}
use Rattle.store_tables.proofs.Texts.{select_slip_lines, select_slip_lines_plain}
use Rattle.store_tables.proofs.sides.read_packs.Goals as goal

pub read_all-requires-clause-plain : goal.read_all-requires-clause-plain
read_all-requires-clause-plain g c = select_slip_lines_plain

pub returns-clause-looks : goal.returns-clause-looks
returns-clause-looks g c =
    let old = state g.S.Store c.args.conn.now in
    let new = state g.S.Store c.read_all.new.conn in
    let did = c.read_all.ensures in
    looks_typed IsTypedSlipPack shown_slip_pack read_slip_pack ShowsSlipPack (λ items. items.items) select_slip_lines []
    old new c.read_all.result (λ rows. rows.slip_packs)
    (λ rows was all shown. reads_slip_packs old new all rows (c.requires.second rows.has_spans was.schema) was shown)
    (λ rows t. t.slip_packs) did.read did.refused did.same did.crash did.clean

pub returns-clause-shown : goal.returns-clause-shown
returns-clause-shown g c clean =
    if_ok c.read_all.result
    (λ items was. (
      was.0,
      was.1,
      items_shown IsTypedSlipPack shown_slip_pack read_slip_pack ShowsSlipPack was.0 items.items was.2,
    )) (c.read_all.ensures.read clean)
