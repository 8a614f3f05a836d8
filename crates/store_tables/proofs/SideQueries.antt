-- What the queries of the lines of slips answer: of the first schema, which has a row for each, and of the second one.
use Rattle.std.proofs.Common.{
  ◌≡◌,
  ℕ,
  ℤ,
  ◌==◌,
  pos,
  true,
  false,
  List,
  [],
  ◌∷◌,
  map,
  filter,
  refl,
  ap,
  subst,
  subst₂,
  ◌∙◌,
}
use Rattle.std.specs.List.{AllByRecursion}
use Rattle.sqlite.specs.declared.types.Value.TheVariants.{Null, Int}
use Rattle.sqlite.specs.Order.{Row}
use Rattle.sqlite.specs.Program.{overlay}
use Rattle.sqlite.specs.State.{State, Shown}
use Rattle.sqlite.proofs.Callers.{reads_as}
use Rattle.store_tables.specs.Calls.{Settled}
use Rattle.store_tables.specs.Reading.{IsTypedSlipPack}
use Rattle.store_tables.specs.Rows.{
  HoldsSides,
  Rows,
  SlipLineRow,
  SlipPackRow,
  integer_at,
  pair_place,
  side_fields,
  slip_line_values,
  slip_pack_values,
  slip_place,
}
use Rattle.store_tables.specs.Schema.{archive_schema}
use Rattle.store_tables.specs.Shown.{shown_slip_line, shown_slip_pack}
use Rattle.store_tables.proofs.Coded.{filter_same}
use Rattle.store_tables.proofs.KeyedQueries.{found_by_order}
use Rattle.store_tables.proofs.LaterStatements.{sides_of}
use Rattle.store_tables.proofs.LinkQueries.{is_between, passes_between, within}
use Rattle.store_tables.proofs.LinkTexts.{between_both}
use Rattle.store_tables.proofs.Pairing.{integer_order}
use Rattle.store_tables.proofs.Queries.{all_in_order}
use Rattle.store_tables.proofs.SideTexts.{
  side_columns,
  sides_between,
  sides_between_is,
  sides_between_plain,
  sides_between_unlisted,
}
use Rattle.store_tables.proofs.Texts.{
  select_slip_lines,
  select_slip_lines_is,
  select_slip_lines_plain,
  select_slip_lines_unlisted,
}
use Rattle.list_laws.proofs.Lists.{filter_all}

pub reads_slip_lines : (old new : State) (all : List Row) (rows : Rows) → rows.has_spans ≡ false → Settled old rows
    → Shown select_slip_lines [] old new all → all ≡ map shown_slip_line rows.slip_lines
reads_slip_lines old new all rows first was h =
    let held = subst (λ b. HoldsSides b rows.slip_lines rows.slip_packs old.now.trees) first was.good.holds.sides in
    let has = was.schema ∙ ap archive_schema first in
    let reads = reads_as select_slip_lines [] old new (archive_schema false) has _ (select_slip_lines_is false)
    (select_slip_lines_plain false) (select_slip_lines_unlisted false) all h in
    all_in_order slip_line_values (λ (x : SlipLineRow). x.id) (λ _. refl) 6 side_columns (overlay old.now.trees [])
    rows.slip_lines all held.0 (reads.answer Null)

pub reads_slip_packs : (old new : State) (all : List Row) (rows : Rows) → rows.has_spans ≡ true → Settled old rows
    → Shown select_slip_lines [] old new all → all ≡ map shown_slip_pack rows.slip_packs
reads_slip_packs old new all rows second was h =
    let has = was.schema ∙ ap archive_schema second in
    let reads = reads_as select_slip_lines [] old new (archive_schema true) has _ (select_slip_lines_is true)
    (select_slip_lines_plain true) (select_slip_lines_unlisted true) all h in
    found_by_order integer_at integer_order slip_pack_values slip_place (λ _. refl) [] [] (λ _. true) (λ _. refl) 10
    side_columns (overlay old.now.trees []) rows.slip_packs all
    (sides_of rows old.now.trees second was.good.holds).1 (reads.answer Null)
    ∙ ap (map shown_slip_pack) (filter_all rows.slip_packs)

-- ---- the sides of one slip
all_within : (n : ℕ) (ss : List SlipPackRow) → AllByRecursion IsTypedSlipPack ss
    → AllByRecursion (λ (s : SlipPackRow). is_between (pair_place n 0) (pair_place n 4294967295) (slip_place s)
    ≡ (s.slip == n)) ss
all_within n [] h = tt
all_within n (s ∷ ss) h = (within n s.slip s.place h.0.place, all_within n ss h.1)

reads_sides_of : (old new : State) (n : ℕ) (all : List Row) (rows : Rows) → rows.has_spans ≡ true → Settled old rows
    → Shown sides_between
    (Int (integer_at (pair_place n 0)) ∷ Int (integer_at (pair_place n 4294967295)) ∷ []) old new all
    → all ≡ map shown_slip_pack (filter (λ (s : SlipPackRow). s.slip == n) rows.slip_packs)
reads_sides_of old new n all rows second was h =
    let first = pair_place n 0 in
    let last = pair_place n 4294967295 in
    let params : Row = Int (integer_at first) ∷ Int (integer_at last) ∷ [] in
    let has = was.schema ∙ ap archive_schema second in
    let reads = reads_as sides_between params old new (archive_schema true) has _ sides_between_is
    (sides_between_plain true) sides_between_unlisted all h in
    found_by_order integer_at integer_order slip_pack_values slip_place (λ _. refl) params between_both
    (λ (s : SlipPackRow). is_between first last (slip_place s))
    (λ s. passes_between first last (slip_place s) (Null ∷ Int (pos s.slip) ∷ side_fields s.side)) 10 side_columns
    (overlay old.now.trees []) rows.slip_packs all (sides_of rows old.now.trees second was.good.holds).1
    (reads.answer Null)
    ∙ ap (map shown_slip_pack)
    (filter_same _ _ rows.slip_packs (all_within n rows.slip_packs was.good.typed.slip_packs))

-- the same by the integers of the first place and of the last one
pub reads_sides_at : (old new : State) (n : ℕ) (first last : ℤ) → first ≡ integer_at (pair_place n 0)
    → last ≡ integer_at (pair_place n 4294967295) → (all : List Row) (rows : Rows) → rows.has_spans ≡ true
    → Settled old rows → Shown sides_between (Int first ∷ Int last ∷ []) old new all
    → all ≡ map shown_slip_pack (filter (λ (s : SlipPackRow). s.slip == n) rows.slip_packs)
reads_sides_at old new n first last is_first is_last all rows second was h =
    reads_sides_of old new n all rows second was
    (subst₂ (λ i j. Shown sides_between (Int i ∷ Int j ∷ []) old new all) is_first is_last h)
