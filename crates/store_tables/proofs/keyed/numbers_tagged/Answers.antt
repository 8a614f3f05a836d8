use Rattle.std.proofs.Common.{pos, [], ◌∷◌, filter, map, bytes_eq, sym, ◌∙◌}
use Rattle.std.specs.List.{list_any}
use Rattle.sqlite.specs.Held.{state}
use Rattle.sqlite.specs.declared.types.Value.TheVariants.{Int, Text}
use Rattle.store_tables.specs.Reading.{IsU32}
use Rattle.store_tables.specs.Rows.{LineRow, PackRow, first_tag}
use Rattle.store_tables.specs.Showing.{ShowsNumber}
use Rattle.store_tables.proofs.Coded.{kept_by}
use Rattle.store_tables.proofs.PackQueries.{number_line, numbers_typed, reads_tagged_by}
use Rattle.store_tables.proofs.PackTexts.{tagged_by, tagged_by_plain}
use Rattle.store_tables.proofs.ReadingRows.{looks_all, looks_as}
use Rattle.store_tables.proofs.keyed.numbers_tagged.Goals as goal
use Rattle.list_laws.proofs.Lists.{map_map}

pub read_all-requires-clause-plain : goal.read_all-requires-clause-plain
read_all-requires-clause-plain g c = tagged_by_plain

pub returns-clause-looks : goal.returns-clause-looks
returns-clause-looks g c =
    let old = state g.S.Store c.args.conn.now in
    let new = state g.S.Store c.read_all.new.conn in
    let did = c.read_all.ensures in
    let one = c.args.one.now in
    let two = c.args.two.now in
    let three = c.args.three.now in
    let four = c.args.four.now in
    let five = c.args.five.now in
    let tags = one ∷ two ∷ three ∷ four ∷ five ∷ [] in
    let given = Text one ∷ Text two ∷ Text three ∷ Text four ∷ Text five ∷ [] in
    looks_as c.read_all.result (λ rows items is. is ∙ map_map _ _ _) (
    looks_all (λ (l : LineRow). Int (pos l.no) ∷ []) (λ (l : LineRow). l.no) ShowsNumber (λ (l : LineRow). IsU32 l.no)
    (λ items. items.items) tagged_by given old new c.read_all.result
    (λ rows. map number_line (filter (λ (p : PackRow). list_any (bytes_eq (first_tag p.lines)) tags) rows.packs))
    (λ rows was all shown. reads_tagged_by one two three four five old new all rows
    (c.requires.second rows.has_spans was.schema) was shown
    ∙ sym (map_map _ _ _))
    (λ rows t. numbers_typed _ (kept_by _ _ rows.packs t.packs)) (rw (
      c.params-to_sql.ensures,
      c.params-to_sql-2.ensures,
      c.params-to_sql-3.ensures,
      c.params-to_sql-4.ensures,
      c.params-to_sql-5.ensures,
    ) at did.read)
    (rw (
      c.params-to_sql.ensures,
      c.params-to_sql-2.ensures,
      c.params-to_sql-3.ensures,
      c.params-to_sql-4.ensures,
      c.params-to_sql-5.ensures,
    ) at did.refused) did.same did.crash did.clean)
