use Rattle.std.proofs.Common.{rules, ◌≡◌, ◌==◌, [], ◌∷◌, ◌∙◌, filter}
use Rattle.std.specs.Prelude.{FitsSigned}
use Rattle.std.specs.Int.{w64, cast_signed, cast_unsigned}
use mir.Facts.{to_z-of_z}
use Rattle.sqlite.specs.Held.{state}
use Rattle.sqlite.specs.declared.types.Value.TheVariants.{Int}
use Rattle.store_tables.specs.Reading.{IsTypedSlipPack, read_slip_pack}
use Rattle.store_tables.specs.Rows.{SlipPackRow, integer_at, pair_place}
use Rattle.store_tables.specs.Shown.{shown_slip_pack}
use Rattle.store_tables.specs.Showing.{ShowsSlipPack}
use Rattle.store_tables.proofs.Coded.{kept_by}
use Rattle.store_tables.proofs.Packing.{looks_typed}
use Rattle.store_tables.proofs.SideQueries.{reads_sides_at}
use Rattle.store_tables.proofs.SideTexts.{sides_between, sides_between_plain}
use Rattle.store_tables.proofs.sides.slip_packs_at.Goals as goal

pub read_all-requires-clause-plain : goal.read_all-requires-clause-plain
read_all-requires-clause-plain g c = sides_between_plain

pub returns-clause-looks : goal.returns-clause-looks
returns-clause-looks g c =
    let old = state g.S.Store c.args.conn.now in
    let new = state g.S.Store c.read_all.new.conn in
    let did = c.read_all.ensures in
    let n = c.args.slip in
    let first = cast_signed w64 (cast_unsigned w64 c.integer_of-first.result) in
    let last = cast_signed w64 (cast_unsigned w64 c.integer_of-last.result) in
    let first_fits : FitsSigned w64 c.integer_of-first.result = search rules in
    let last_fits : FitsSigned w64 c.integer_of-last.result = search rules in
    let is_first : first ≡ integer_at (pair_place n 0) = to_z-of_z first_fits ∙ c.integer_of-first.ensures in
    let is_last : last ≡ integer_at (pair_place n 4294967295) = to_z-of_z last_fits ∙ c.integer_of-last.ensures in
    looks_typed IsTypedSlipPack shown_slip_pack read_slip_pack ShowsSlipPack (λ items. items.items) sides_between
    (Int first ∷ Int last ∷ []) old new c.read_all.result
    (λ rows. filter (λ (s : SlipPackRow). s.slip == n) rows.slip_packs)
    (λ rows was all shown. reads_sides_at old new n first last is_first is_last all rows
    (c.requires.second rows.has_spans was.schema) was shown)
    (λ rows t. kept_by _ _ rows.slip_packs t.slip_packs)
    (rw (c.params-to_sql.ensures, c.params-to_sql-2.ensures) at did.read)
    (rw (c.params-to_sql.ensures, c.params-to_sql-2.ensures) at did.refused) did.same did.crash did.clean
