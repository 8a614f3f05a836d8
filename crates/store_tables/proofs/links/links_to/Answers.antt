use Rattle.std.proofs.Common.{rules, ◌≡◌, [], ◌∷◌, ◌∙◌}
use Rattle.std.specs.Prelude.{FitsSigned}
use Rattle.std.specs.Int.{w64, cast_signed, cast_unsigned}
use mir.Facts.{to_z-of_z}
use Rattle.sqlite.specs.Held.{state}
use Rattle.sqlite.specs.declared.types.Value.TheVariants.{Int}
use Rattle.store_tables.specs.Keyed.{links_to}
use Rattle.store_tables.specs.Reading.{IsTypedLink, read_link}
use Rattle.store_tables.specs.Rows.{integer_at, pair_place}
use Rattle.store_tables.specs.Shown.{shown_link}
use Rattle.store_tables.specs.Showing.{ShowsLink}
use Rattle.store_tables.proofs.Coded.{kept_by}
use Rattle.store_tables.proofs.LinkQueries.{reads_between}
use Rattle.store_tables.proofs.LinkTexts.{between_of_second, links_between}
use Rattle.store_tables.proofs.Pairing.{links_again}
use Rattle.store_tables.proofs.ReadingRows.{looks_all, looks_where}
use Rattle.store_tables.proofs.links.links_to.Goals as goal

pub read_later-requires-clause-later : goal.read_later-requires-clause-later
read_later-requires-clause-later g c = between_of_second

pub returns-clause-looks : goal.returns-clause-looks
returns-clause-looks g c =
    let old = state g.S.Store c.args.conn.now in
    let new = state g.S.Store c.read_later.new.conn in
    let did = c.read_later.ensures in
    let n = c.args.target in
    let first = cast_signed w64 (cast_unsigned w64 c.integer_of-first.result) in
    let last = cast_signed w64 (cast_unsigned w64 c.integer_of-last.result) in
    let first_fits : FitsSigned w64 c.integer_of-first.result = search rules in
    let last_fits : FitsSigned w64 c.integer_of-last.result = search rules in
    let is_first : first ≡ integer_at (pair_place n 0) = to_z-of_z first_fits ∙ c.integer_of-first.ensures in
    let is_last : last ≡ integer_at (pair_place n 4294967295) = to_z-of_z last_fits ∙ c.integer_of-last.ensures in
    looks_where c.read_later.result
    (λ rows was items is. is ∙ links_again (links_to n rows) (kept_by _ _ rows.links was.good.typed.links)) (
    looks_all shown_link read_link ShowsLink IsTypedLink (λ items. items.items) links_between
    (Int first ∷ Int last ∷ []) old new c.read_later.result (λ rows. links_to n rows)
    (λ rows was all shown. reads_between old new n first last is_first is_last all rows was shown)
    (λ rows t. kept_by _ _ rows.links t.links)
    (rw (c.params-to_sql.ensures, c.params-to_sql-2.ensures) at did.read)
    (rw (c.params-to_sql.ensures, c.params-to_sql-2.ensures) at did.refused) did.same did.crash did.clean)
