use Rattle.std.proofs.Common.{pos, [], ◌∷◌, filter, map, bytes_eq, ◌&&◌, sym, ◌∙◌}
use Rattle.sqlite.specs.Held.{state}
use Rattle.sqlite.specs.declared.types.Value.TheVariants.{Int, Text}
use Rattle.store_tables.specs.Keyed.{is_number}
use Rattle.store_tables.specs.Reading.{IsU32}
use Rattle.store_tables.specs.Rows.{LineRow, SoughtRow}
use Rattle.store_tables.specs.Showing.{ShowsNumber}
use Rattle.store_tables.proofs.Coded.{kept_by}
use Rattle.store_tables.proofs.ReadingRows.{looks_all, looks_as}
use Rattle.store_tables.proofs.SoughtQueries.{as_line, lines_typed, reads_sought_by_of}
use Rattle.store_tables.proofs.SoughtTexts.{by_of_of_second, sought_by_of}
use Rattle.store_tables.proofs.soughts.sought_by_of.Goals as goal
use Rattle.list_laws.proofs.Lists.{map_map}

pub read_later-requires-clause-later : goal.read_later-requires-clause-later
read_later-requires-clause-later g c = by_of_of_second

pub returns-clause-looks : goal.returns-clause-looks
returns-clause-looks g c =
    let old = state g.S.Store c.args.conn.now in
    let new = state g.S.Store c.read_later.new.conn in
    let did = c.read_later.ensures in
    let text = c.args.text.now in
    let n = c.args.target in
    looks_as c.read_later.result (λ rows items is. is ∙ map_map _ _ _) (
    looks_all (λ (l : LineRow). Int (pos l.no) ∷ []) (λ (l : LineRow). l.no) ShowsNumber (λ (l : LineRow). IsU32 l.no)
    (λ items. items.items) sought_by_of (Text text ∷ Int (pos n) ∷ []) old new c.read_later.result
    (λ rows. map as_line (filter (λ (s : SoughtRow). bytes_eq s.text text && is_number n s.target) rows.soughts))
    (λ rows was all shown. reads_sought_by_of old new text n all rows was shown ∙ sym (map_map _ _ _))
    (λ rows t. lines_typed _ (kept_by _ _ rows.soughts t.soughts))
    (rw (c.params-to_sql.ensures, c.params-to_sql-2.ensures) at did.read)
    (rw (c.params-to_sql.ensures, c.params-to_sql-2.ensures) at did.refused) did.same did.crash did.clean)
