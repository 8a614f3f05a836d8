use Rattle.std.proofs.Common.{pos, ◌==◌, [], ◌∷◌, filter, ◌∙◌}
use Rattle.sqlite.specs.Held.{state}
use Rattle.sqlite.specs.declared.types.Value.TheVariants.{Int}
use Rattle.store_tables.specs.Reading.{IsTypedSlip}
use Rattle.store_tables.specs.Rows.{SlipRow}
use Rattle.store_tables.specs.Shown.{shown_slip}
use Rattle.store_tables.specs.Showing.{ShowsSlip}
use Rattle.store_tables.proofs.Coded.{kept_by}
use Rattle.store_tables.proofs.KeyedQueries.{reads_slip, one_at_most}
use Rattle.store_tables.proofs.KeyedTexts.{slip_at, slip_at_plain}
use Rattle.store_tables.proofs.ReadingRows.{looks_all, looks_where, map_same}
use Rattle.store_tables.proofs.keyed.slips_at.Goals as goal

pub read_all-requires-clause-plain : goal.read_all-requires-clause-plain
read_all-requires-clause-plain g c = slip_at_plain

pub returns-clause-looks : goal.returns-clause-looks
returns-clause-looks g c =
    let old = state g.S.Store c.args.conn.now in
    let new = state g.S.Store c.read_all.new.conn in
    let did = c.read_all.ensures in
    looks_where c.read_all.result
    (λ rows was items is. let e = is ∙ map_same (filter (λ (x : SlipRow). x.no == c.args.number) rows.slips) in
    (e, rw e (one_at_most (λ (x : SlipRow). x.no) c.args.number rows.slips was.good.holds.slips.rise))) (
    looks_all shown_slip (λ (s : SlipRow). s) ShowsSlip IsTypedSlip (λ items. items.items) slip_at
    (Int (pos c.args.number) ∷ []) old new c.read_all.result
    (λ rows. filter (λ (x : SlipRow). x.no == c.args.number) rows.slips)
    (λ rows was all shown. reads_slip old new c.args.number all rows was.schema was.good.holds shown)
    (λ rows t. kept_by _ _ rows.slips t.slips) (rw (c.params-to_sql.ensures) at did.read)
    (rw (c.params-to_sql.ensures) at did.refused) did.same did.crash did.clean)
