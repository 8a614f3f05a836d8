-- What the statements on the sides of slips make of the rows that the tables hold.
use Rattle.std.proofs.Common.{
  ◌≡◌,
  ℕ,
  ℤ,
  ◌==◌,
  pos,
  Bool,
  List,
  [],
  ◌∷◌,
  map,
  filter,
  not,
  true,
  Ok,
  refl,
  ap,
  subst,
  subst₂,
  ◌∙◌,
}
use Rattle.std.specs.List.{AllByRecursion}
use Rattle.std.specs.List.Sorted.{IsPermutation}
use Rattle.std.proofs.lemmas.List.Sorted.{IsPermutation-map}
use Rattle.sqlite.specs.declared.types.Value.TheVariants.{Null, Int, Text}
use Rattle.sqlite.specs.Order.{Row}
use Rattle.sqlite.specs.Term.{col}
use Rattle.sqlite.specs.Tree.{rowid, put_row}
use Rattle.sqlite_schema.specs.Names.{same_name}
use Rattle.sqlite_value.specs.Keys.{joined}
use Rattle.sqlite.specs.Command.TheVariants.{Delete, Insert}
use Rattle.sqlite.specs.Source.TheVariants.{Values}
use Rattle.sqlite.specs.Effect.{value_rows}
use Rattle.sqlite_catalog.specs.Listing.{IsSound}
use Rattle.sqlite_schema.specs.declared.program.Program.{Program}
use Rattle.sqlite.specs.Program.{overlay}
use Rattle.sqlite_schema.specs.declared.schema.Keys.TheVariants.{Enforced}
use Rattle.sqlite.specs.Rowids.TheVariants.{Chosen, Given}
use Rattle.sqlite.specs.Edit.{edit_of, edited, id_in, taken_by}
use Rattle.sqlite_rules.specs.Calls.{ids_of}
use Rattle.sqlite_rules.specs.Action.{works}
use Rattle.sqlite.specs.State.{State, Executes}
use Rattle.sqlite.proofs.Callers.{runs_as, one_step, statement_of}
use Rattle.sqlite.specs.Listing.{understood}
use Rattle.packed_rows.specs.Packed.{packed}
use Rattle.store_tables.specs.Reading.{IsTypedSlipPack}
use Rattle.store_tables.specs.Schema.{archive_schema, slip_packs}
use Rattle.store_tables.specs.Rows.{
  Keeps,
  SlipLineRow,
  SlipPackRow,
  SlipSide,
  first_tag,
  first_target,
  flag,
  integer_at,
  number_or_null,
  pair_place,
  put_by,
  side_fields,
  slip_pack_values,
  slip_place,
}
use Rattle.store_tables.specs.Sides.{with_slip_side, without_slip_sides}
use Rattle.store_tables.proofs.Coded.{filter_same, keeps_less_at, keeps_on, keeps_put_at}
use Rattle.store_tables.proofs.Finding.{simple, answered}
use Rattle.store_tables.proofs.LaterStatements.{BecomesDated, sides_changed, sides_of}
use Rattle.store_tables.proofs.LinkQueries.{is_between, passes_between, within}
use Rattle.store_tables.proofs.LinkTexts.{between_both}
use Rattle.store_tables.proofs.Pairing.{integer_order}
use Rattle.store_tables.proofs.SideTexts.{
  delete_sides,
  delete_sides_is,
  delete_sides_plain,
  insert_side,
  insert_side_is,
  insert_side_plain,
  side_terms,
}
use Rattle.store_tables.proofs.Statements.{cast_number}
use Rattle.store_tables.proofs.Writing.{inserts, deletes, cast_int, cast_null}
use Rattle.list_laws.proofs.Lists.{map_map}

-- what the INSERT of a side gets
abbrev pub side_params : ℤ → ℕ → SlipSide → Row
side_params integer n s = Int integer ∷ Int (pos n) ∷ Int (pos (flag s.0)) ∷ Int (pos s.1.0) ∷ Text (first_tag s.1.1)
    ∷ Text (packed s.1.1) ∷ number_or_null (first_target s.1.1) ∷ []

inserts_side : (old new : State) (n at : ℕ) (s : SlipSide) (count : ℕ) → old.now.schema ≡ archive_schema true
    → Executes insert_side (side_params (integer_at (pair_place n at)) n s) old new (Ok count)
    → BecomesDated old new (with_slip_side n at s)
inserts_side old new n at s count has h =
    let params = side_params (integer_at (pair_place n at)) n s in
    let w = runs_as insert_side params old new (archive_schema true) has (Insert 5 (Values side_terms 10))
    insert_side_is insert_side_plain count h in
    let did = inserts (archive_schema true) slip_packs 5 refl refl old new.now w.tally params
    (statement_of insert_side (understood (archive_schema true) insert_side)) side_terms 10 has w.changed in
    let db = old.now.trees in
    let now = new.now.trees in
    let edit = edit_of db slip_packs [] Chosen 0 (value_rows params 10 1 side_terms) in
    let applied = one_step (archive_schema true) Enforced db now edit refl did.1 in
    let item : SlipPackRow = record { slip = n; place = at; side = s } in
    let row : edited db edit ≡ put_row (slip_pack_values item) (db 10) = rw (
      cast_int (integer_at (pair_place n at)),
      cast_int (pos n),
      cast_int (pos (flag s.0)),
      cast_int (pos s.1.0),
      cast_int (pos 0),
      cast_number (first_target s.1.1),
      cast_null,
    ) refl in
    record {
      schema = did.0;
      sound = subst (λ s. IsSound s now) did.0 w.sound;
      same = λ _. refl;
      holds = λ rows dated typed was.
          let held = sides_of rows db dated was in
          sides_changed rows rows.slip_lines (put_by slip_place item rows.slip_packs) db now edit applied refl dated
          held.0
          (keeps_on _ _ (now 10) (applied.rows ∙ row)
          (keeps_put_at integer_at integer_order slip_pack_values slip_place (λ _. refl) item rows.slip_packs (db 10)
          held.1)) was;
    }

no_work_10 : (olds : List Row) → works (archive_schema true) Enforced 0 10 olds [] ≡ []
unfolding same_name joined
no_work_10 olds = refl

-- whether a side is between the first one and the last one of a slip
abbrev is_within : ℕ → SlipPackRow → Bool
is_within n s = is_between (pair_place n 0) (pair_place n 4294967295) (slip_place s)

-- typed sides that are not there are those of other slips
others_stay : (n : ℕ) (ss : List SlipPackRow) → AllByRecursion IsTypedSlipPack ss
    → AllByRecursion (λ (s : SlipPackRow). not (is_within n s) ≡ not (s.slip == n)) ss
others_stay n [] h = tt
others_stay n (s ∷ ss) h = (ap not (within n s.slip s.place h.0.place), others_stay n ss h.1)

deletes_sides : (old new : State) (n count : ℕ) → old.now.schema ≡ archive_schema true
    → Executes delete_sides
    (Int (integer_at (pair_place n 0)) ∷ Int (integer_at (pair_place n 4294967295)) ∷ []) old new (Ok count)
    → BecomesDated old new (without_slip_sides n)
deletes_sides old new n count has h =
    let first = pair_place n 0 in
    let last = pair_place n 4294967295 in
    let params : Row = Int (integer_at first) ∷ Int (integer_at last) ∷ [] in
    let q : Program = record { lets = []; body = simple 10 between_both (col 1 0 ∷ []) [] } in
    let w = runs_as delete_sides params old new (archive_schema true) has (Delete 5 q) delete_sides_is
    delete_sides_plain count h in
    let did = deletes (archive_schema true) slip_packs 5 refl refl old new.now w.tally params
    (statement_of delete_sides (understood (archive_schema true) delete_sides)) q has w.changed in
    let found = did.1 in
    let db = old.now.trees in
    let now = new.now.trees in
    let edit = edit_of db slip_packs (ids_of found) Given 0 [] in
    let applied = one_step (archive_schema true) Enforced db now edit (no_work_10 (taken_by db edit)) did.3 in
    record {
      schema = did.0;
      sound = subst (λ s. IsSound s now) did.0 w.sound;
      same = λ _. refl;
      holds = λ rows dated typed was.
          let held = sides_of rows db dated was in
          let all = answered slip_pack_values params between_both (is_within n)
          (λ s. passes_between first last (slip_place s) (Null ∷ Int (pos s.slip) ∷ side_fields s.side)) 10
          (col 1 0 ∷ []) [] (overlay db []) rows.slip_packs found held.1.is (did.2.answer Null) in
          let ids : IsPermutation (map (λ s. integer_at (slip_place s)) (filter (is_within n) rows.slip_packs))
          (ids_of found) =
          subst (λ k. IsPermutation k (ids_of found)) (map_map _ _ (filter (is_within n) rows.slip_packs))
          (IsPermutation-map (λ r. id_in (rowid r)) _ _ all) in
          let less = keeps_less_at integer_at integer_order slip_pack_values slip_place (λ _. refl) (is_within n)
          rows.slip_packs (db 10) (ids_of found) ids held.1 in
          let others = λ (s : SlipLineRow). not (s.slip == n) in
          sides_changed rows (filter others rows.slip_lines)
          (filter (λ (s : SlipPackRow). not (s.slip == n)) rows.slip_packs) db now edit applied refl dated
          (ap (filter others) held.0)
          (subst (λ ss. Keeps slip_pack_values slip_place ss (now 10))
          (filter_same _ _ rows.slip_packs (others_stay n rows.slip_packs typed.slip_packs))
          (keeps_on _ _ (now 10) applied.rows less)) was;
    }

-- ---- the same by the integers of the places
pub inserts_side_by : (old new : State) (n at : ℕ) (s : SlipSide) (count : ℕ) (integer : ℤ)
    → integer ≡ integer_at (pair_place n at) → old.now.schema ≡ archive_schema true
    → Executes insert_side (side_params integer n s) old new (Ok count) → BecomesDated old new (with_slip_side n at s)
inserts_side_by old new n at s count integer is has h = inserts_side old new n at s count has
    (subst (λ i. Executes insert_side (side_params i n s) old new (Ok count)) is h)

pub deletes_sides_by : (old new : State) (n count : ℕ) (first last : ℤ) → first ≡ integer_at (pair_place n 0)
    → last ≡ integer_at (pair_place n 4294967295) → old.now.schema ≡ archive_schema true
    → Executes delete_sides (Int first ∷ Int last ∷ []) old new (Ok count)
    → BecomesDated old new (without_slip_sides n)
deletes_sides_by old new n count first last is_first is_last has h = deletes_sides old new n count has
    (subst₂ (λ i j. Executes delete_sides (Int i ∷ Int j ∷ []) old new (Ok count)) is_first is_last h)
