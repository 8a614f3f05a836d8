-- What the statements on lines make of the rows that the tables hold: each DELETE of either schema, where lines have
-- rows of their own or all lines of a record one row, and the INSERT of such a row.
use Rattle.std.proofs.Common.{
  ◌≡◌,
  ℕ,
  ◌==◌,
  ◌&&◌,
  pos,
  Bool,
  true,
  false,
  List,
  [],
  ◌∷◌,
  map,
  filter,
  not,
  nat_lt,
  Ok,
  Err,
  Result,
  Some,
  refl,
  sym,
  ap,
  ap₂,
  subst,
  ◌∙◌,
  arith,
}
use Rattle.std.specs.Ordering.{is_ge}
use Rattle.std.specs.List.{list_all}
use Rattle.std.specs.List.Sorted.{IsPermutation}
use Rattle.std.proofs.lemmas.Bool.Decides.{nat_tests}
use Rattle.std.proofs.lemmas.List.Sorted.{IsPermutation-map}
use Rattle.sqlite.specs.declared.types.Value.TheVariants.{Null, Int, Text}
use Rattle.sqlite.specs.Order.{Row, value_cmp}
use Rattle.sqlite.specs.Ops.{is_true, from_truth, binary}
use Rattle.sqlite.specs.Term.{Term, holds, col, lit}
use Rattle.sqlite.specs.Tree.{rowid, put_row}
use Rattle.sqlite_schema.specs.Names.{same_name}
use Rattle.sqlite_value.specs.Keys.{joined}
use Rattle.sqlite.specs.Command.TheVariants.{Delete, Insert}
use Rattle.sqlite.specs.Source.TheVariants.{Values}
use Rattle.sqlite.specs.Effect.{value_rows}
use Rattle.sqlite_resolve.specs.declared.compiled.Compiled.{Compiled}
use Rattle.sqlite_resolve.specs.declared.error.CompileError.{CompileError}
use Rattle.sqlite_schema.specs.declared.program.Program.{Program}
use Rattle.sqlite.specs.Program.{overlay}
use Rattle.sqlite_schema.specs.declared.schema.Keys.TheVariants.{Enforced}
use Rattle.sqlite.specs.Rowids.TheVariants.{Chosen, Given}
use Rattle.sqlite.specs.Edit.{edit_of, edited, id_in, taken_by}
use Rattle.sqlite_rules.specs.Calls.{ids_of}
use Rattle.sqlite_rules.specs.Action.{works}
use Rattle.sqlite.specs.State.{State, Executes, ExecutesIn}
use Rattle.sqlite.proofs.Callers.{IsPlain, command_of, runs_as, one_step, statement_of}
use Rattle.sqlite.specs.Listing.{understood}
use Rattle.stored_lines.specs.Line.{Label}
use Rattle.packed_rows.specs.Packed.{packed}
use Rattle.store_tables.specs.Schema.{archive_schema, lines, packs}
use Rattle.store_tables.specs.Rows.{
  Rows,
  LineRow,
  PackRow,
  HoldsOwn,
  first_tag,
  first_target,
  is_line_from,
  is_pack_from,
  line_values,
  number_or_null,
  pack_values,
  put_by,
  with_pack,
  without_lines,
  without_lines_from,
}
use Rattle.store_tables.proofs.BatchTexts.{
  delete_lines_from,
  delete_lines_from_is,
  delete_lines_from_plain,
  from_place,
}
use Rattle.store_tables.proofs.PackTexts.{insert_pack, insert_pack_is, insert_pack_plain, insert_pack_unknown}
use Rattle.store_tables.proofs.Texts.{with_key, delete_lines, delete_lines_is, delete_lines_plain}
use Rattle.store_tables.proofs.Writing.{inserts, deletes, cast_int, cast_null}
use Rattle.store_tables.proofs.Finding.{simple, answered}
use Rattle.store_tables.proofs.Coded.{same_int, int_order, keeps_less, keeps_on, keeps_put}
use Rattle.store_tables.proofs.LaterStatements.{beside, kept_of, late_same}
use Rattle.store_tables.proofs.Statements.{Becomes, becomes, cast_number, others_of, pasts_on, sides_on, truth_of}
use Rattle.list_laws.proofs.Lists.{map_map}

no_work_3 : (olds : List Row) → works (archive_schema false) Enforced 0 3 olds [] ≡ []
unfolding same_name joined
no_work_3 olds = refl

no_work_11 : (olds : List Row) → works (archive_schema true) Enforced 0 11 olds [] ≡ []
unfolding same_name joined
no_work_11 olds = refl

-- rows of one line or of all lines, less those that pass a test
abbrev less : (LineRow → Bool) → (PackRow → Bool) → Rows → Rows
less q r rows = record rows {
  lines = filter (λ l. not (q l)) rows.lines;
  packs = filter (λ p. not (r p)) rows.packs;
}

-- a DELETE of rows with one line
module _ (sql : List ℕ) (params : Row) (tests : List Term) (q : LineRow → Bool) (r : PackRow → Bool)
    (passes : (x : LineRow) → list_all (holds (params ∷ line_values x ∷ [])) tests ≡ q x)
    (is : command_of (understood (archive_schema false) sql) ≡ Delete 3
    (record { lets = []; body = simple 3 tests (col 1 0 ∷ []) [] }))
    (plain : IsPlain (understood (archive_schema false) sql)) (old new : State) (count : ℕ)
    (has : old.now.schema ≡ archive_schema false) where
  less_lines : Executes sql params old new (Ok count) → Becomes false old new (less q r)
  less_lines h =
      let program : Program = record { lets = []; body = simple 3 tests (col 1 0 ∷ []) [] } in
      let w = runs_as sql params old new (archive_schema false) has (Delete 3 program) is plain count h in
      let did = deletes (archive_schema false) lines 3 refl refl old new.now w.tally params
      (statement_of sql (understood (archive_schema false) sql)) program has w.changed in
      let found = did.1 in
      let db = old.now.trees in
      let now = new.now.trees in
      let edit = edit_of db lines (ids_of found) Given 0 [] in
      let applied = one_step (archive_schema false) Enforced db now edit (no_work_3 (taken_by db edit)) did.3 in
      let same = others_of false db now edit applied in
      becomes false old new w.sound did.0 (λ _. refl) (λ rows fits was.
      let own = subst (λ b. HoldsOwn b rows.lines rows.packs rows.spans rows.links rows.soughts db) fits was.own in
      let all = answered line_values params tests q passes 3 (col 1 0 ∷ []) [] (overlay db []) rows.lines found own.0.is
      (did.2.answer Null) in
      let ids : IsPermutation (map (λ x. pos ((λ (l : LineRow). l.id) x)) (filter q rows.lines)) (ids_of found) =
      subst (λ k. IsPermutation k (ids_of found)) (map_map _ _ (filter q rows.lines))
      (IsPermutation-map (λ r. id_in (rowid r)) _ _ all) in
      record {
        meta = same 0 (omega arith) (omega arith) ∙ was.meta;
        batches = keeps_on _ _ _ (same 1 (omega arith) (omega arith)) was.batches;
        records = keeps_on _ _ _ (same 2 (omega arith) (omega arith)) was.records;
        receipts = keeps_on _ _ _ (same 4 (omega arith) (omega arith)) was.receipts;
        slips = keeps_on _ _ _ (same 5 (omega arith) (omega arith)) was.slips;
        sides = sides_on false rows db now edit applied (omega arith) (omega arith) fits was.sides;
        own = subst
            (λ b. HoldsOwn b (filter (λ l. not (q l)) rows.lines) (filter (λ p. not (r p)) rows.packs) rows.spans
            rows.links rows.soughts now) (sym fits) (
              keeps_on _ _ (now 3) applied.rows
                  (keeps_less line_values (λ (l : LineRow). l.id) (λ _. refl) q rows.lines (db 3) (ids_of found) ids
                  own.0),
              ap (filter (λ p. not (r p))) own.1,
              own.2,
              own.3,
              own.4,
            );
        pasts = pasts_on false rows db now edit applied (omega arith) fits was.pasts;
      })

-- a DELETE of rows with all lines
module _ (sql : List ℕ) (params : Row) (tests : List Term) (q : LineRow → Bool) (r : PackRow → Bool)
    (passes : (x : PackRow) → list_all (holds (params ∷ pack_values x ∷ [])) tests ≡ r x)
    (is : command_of (understood (archive_schema true) sql) ≡ Delete 6
    (record { lets = []; body = simple 11 tests (col 1 0 ∷ []) [] }))
    (plain : IsPlain (understood (archive_schema true) sql)) (old new : State) (count : ℕ)
    (has : old.now.schema ≡ archive_schema true) where
  less_packs : Executes sql params old new (Ok count) → Becomes true old new (less q r)
  less_packs h =
      let program : Program = record { lets = []; body = simple 11 tests (col 1 0 ∷ []) [] } in
      let w = runs_as sql params old new (archive_schema true) has (Delete 6 program) is plain count h in
      let did = deletes (archive_schema true) packs 6 refl refl old new.now w.tally params
      (statement_of sql (understood (archive_schema true) sql)) program has w.changed in
      let found = did.1 in
      let db = old.now.trees in
      let now = new.now.trees in
      let edit = edit_of db packs (ids_of found) Given 0 [] in
      let applied = one_step (archive_schema true) Enforced db now edit (no_work_11 (taken_by db edit)) did.3 in
      let same = others_of true db now edit applied in
      let late = late_same db now edit applied in
      becomes true old new w.sound did.0 (λ _. refl) (λ rows fits was.
      let own = subst (λ b. HoldsOwn b rows.lines rows.packs rows.spans rows.links rows.soughts db) fits was.own in
      let all = answered pack_values params tests r passes 11 (col 1 0 ∷ []) [] (overlay db []) rows.packs found
      own.1.packs_kept.is (did.2.answer Null) in
      let ids : IsPermutation (map (λ x. pos ((λ (p : PackRow). p.no) x)) (filter r rows.packs)) (ids_of found) =
      subst (λ k. IsPermutation k (ids_of found)) (map_map _ _ (filter r rows.packs))
      (IsPermutation-map (λ r. id_in (rowid r)) _ _ all) in
      record {
        meta = same 0 (omega arith) (omega arith) ∙ was.meta;
        batches = keeps_on _ _ _ (same 1 (omega arith) (omega arith)) was.batches;
        records = keeps_on _ _ _ (same 2 (omega arith) (omega arith)) was.records;
        receipts = keeps_on _ _ _ (same 4 (omega arith) (omega arith)) was.receipts;
        slips = keeps_on _ _ _ (same 5 (omega arith) (omega arith)) was.slips;
        sides = sides_on true rows db now edit applied (omega arith) (omega arith) fits was.sides;
        own = subst
            (λ b. HoldsOwn b (filter (λ l. not (q l)) rows.lines) (filter (λ p. not (r p)) rows.packs) rows.spans
            rows.links rows.soughts now) (sym fits) (
              ap (filter (λ l. not (q l))) own.0,
              record {
                packs_kept = keeps_on _ _ (now 11) applied.rows
                    (keeps_less pack_values (λ (p : PackRow). p.no) (λ _. refl) r rows.packs (db 11) (ids_of found) ids
                    own.1.packs_kept);
                spans_kept = keeps_on _ _ _ (late 12 (omega arith) (omega arith) (omega arith)) own.1.spans_kept;
                links_kept = keeps_on _ _ _ (late 13 (omega arith) (omega arith) (omega arith)) own.1.links_kept;
                soughts_kept = keeps_on _ _ _ (late 14 (omega arith) (omega arith) (omega arith)) own.1.soughts_kept;
              },
            );
        pasts = pasts_on true rows db now edit applied (omega arith) fits was.pasts;
      })

-- ---- the lines of a number
line_passes : (n : ℕ) (x : LineRow) → list_all (holds ((Int (pos n) ∷ []) ∷ line_values x ∷ [])) (with_key 2)
    ≡ (x.no == n)
unfolding binary
line_passes n x = ap (λ b. is_true (from_truth (Some b)) && true) (same_int x.no n) ∙ truth_of (x.no == n)

pack_passes : (n : ℕ) (x : PackRow) → list_all (holds ((Int (pos n) ∷ []) ∷ pack_values x ∷ [])) (with_key 0)
    ≡ (x.no == n)
unfolding binary
pack_passes n x = ap (λ b. is_true (from_truth (Some b)) && true) (same_int x.no n) ∙ truth_of (x.no == n)

pub deletes_lines : (old new : State) (n count : ℕ) (b : Bool) → old.now.schema ≡ archive_schema b
    → Executes delete_lines (Int (pos n) ∷ []) old new (Ok count) → Becomes b old new (without_lines n)
deletes_lines old new n count false has = less_lines delete_lines (Int (pos n) ∷ []) (with_key 2) (λ l. l.no == n)
    (λ p. p.no == n) (line_passes n) (delete_lines_is false) (delete_lines_plain false) old new count has
deletes_lines old new n count true has = less_packs delete_lines (Int (pos n) ∷ []) (with_key 0) (λ l. l.no == n)
    (λ p. p.no == n) (pack_passes n) (delete_lines_is true) (delete_lines_plain true) old new count has

-- ---- the lines of a number from a place on
not_below : (m n : ℕ) → is_ge (value_cmp (Int (pos m)) (Int (pos n))) ≡ not (nat_lt m n)
not_below m n = ap is_ge (int_order m n) ∙ grind (arith, nat_tests)

both_true : (a b : Bool) → (is_true (from_truth (Some a)) && (is_true (from_truth (Some b)) && true)) ≡ (a && b)
both_true true true = refl
both_true true false = refl
both_true false b = refl

line_from : (n at : ℕ) (x : LineRow) → list_all (holds ((Int (pos n) ∷ Int (pos at) ∷ []) ∷ line_values x ∷ []))
    (from_place false) ≡ is_line_from n at x
unfolding binary
line_from n at x =
    ap₂ (λ a b. is_true (from_truth (Some a)) && (is_true (from_truth (Some b)) && true)) (same_int x.no n)
    (not_below x.at at) ∙ both_true (x.no == n) (not (nat_lt x.at at))

pack_from : (n at : ℕ) (x : PackRow) → list_all (holds ((Int (pos n) ∷ Int (pos at) ∷ []) ∷ pack_values x ∷ []))
    (from_place true) ≡ is_pack_from n at x
unfolding binary
pack_from n at x =
    ap₂ (λ a b. is_true (from_truth (Some a)) && (is_true (from_truth (Some b)) && true)) (same_int x.no n)
    (not_below 0 at) ∙ both_true (x.no == n) (not (nat_lt 0 at))

pub deletes_lines_from : (old new : State) (n at count : ℕ) (b : Bool) → old.now.schema ≡ archive_schema b
    → Executes delete_lines_from (Int (pos n) ∷ Int (pos at) ∷ []) old new (Ok count)
    → Becomes b old new (without_lines_from n at)
deletes_lines_from old new n at count false has = less_lines delete_lines_from (Int (pos n) ∷ Int (pos at) ∷ [])
    (from_place false) (is_line_from n at) (is_pack_from n at) (line_from n at) (delete_lines_from_is false)
    (delete_lines_from_plain false) old new count has
deletes_lines_from old new n at count true has = less_packs delete_lines_from (Int (pos n) ∷ Int (pos at) ∷ [])
    (from_place true) (is_line_from n at) (is_pack_from n at) (pack_from n at) (delete_lines_from_is true)
    (delete_lines_from_plain true) old new count has

-- ---- all lines of a number
no_text : {c : Compiled} {e : CompileError} → ◌≡◌ {A = Result Compiled CompileError} (Ok c) (Err e) → ⊥
no_text e = cc

-- the first schema does not understand the text
never_first : (old new : State) (params : Row) (count : ℕ) → old.now.schema ≡ archive_schema false
    → ¬ Executes insert_pack params old new (Ok count)
unfolding ExecutesIn
never_first old new params count has h =
    no_text (sym h.1.is ∙ ap (λ s. understood s insert_pack) has ∙ insert_pack_unknown.1)

pub inserts_pack : (old new : State) (n : ℕ) (ls : List (ℕ × Label)) (count : ℕ) (b : Bool)
    → old.now.schema ≡ archive_schema b
    → Executes insert_pack
    (Int (pos n) ∷ Text (first_tag ls) ∷ Text (packed ls) ∷ number_or_null (first_target ls) ∷ []) old new (Ok count)
    → Becomes b old new (with_pack n ls)
inserts_pack old new n ls count false has h = absurd (never_first old new _ count has h)
inserts_pack old new n ls count true has h =
    let params = Int (pos n) ∷ Text (first_tag ls) ∷ Text (packed ls) ∷ number_or_null (first_target ls) ∷ [] in
    let terms = col 0 0 ∷ lit Null ∷ lit (Int (pos 0)) ∷ lit (Int (pos 0)) ∷ col 0 1 ∷ col 0 2 ∷ col 0 3 ∷ [] in
    let w = runs_as insert_pack params old new (archive_schema true) has (Insert 6 (Values terms 7)) insert_pack_is
    insert_pack_plain count h in
    let did = inserts (archive_schema true) packs 6 refl refl old new.now w.tally params
    (statement_of insert_pack (understood (archive_schema true) insert_pack)) terms 7 has w.changed in
    let db = old.now.trees in
    let now = new.now.trees in
    let edit = edit_of db packs [] Chosen 0 (value_rows params 7 1 terms) in
    let applied = one_step (archive_schema true) Enforced db now edit refl did.1 in
    let late = late_same db now edit applied in
    let item : PackRow = record { no = n; lines = ls } in
    let row : edited db edit ≡ put_row (pack_values item) (db 11) = rw (
      cast_int (pos n),
      cast_int (pos 0),
      cast_number (first_target ls),
      cast_null,
    ) refl in
    becomes true old new w.sound did.0 (λ _. refl) (λ rows fits was.
    let kept = kept_of rows db fits was in
    let after = put_by (λ (p : PackRow). p.no) item rows.packs in
    beside rows after rows.spans rows.links rows.soughts db now edit applied (omega arith) (omega arith) fits (record {
      packs_kept = keeps_on _ _ (now 11) (applied.rows ∙ row)
          (keeps_put pack_values (λ (p : PackRow). p.no) (λ _. refl) item rows.packs (db 11) kept.packs_kept);
      spans_kept = keeps_on _ _ _ (late 12 (omega arith) (omega arith) (omega arith)) kept.spans_kept;
      links_kept = keeps_on _ _ _ (late 13 (omega arith) (omega arith) (omega arith)) kept.links_kept;
      soughts_kept = keeps_on _ _ _ (late 14 (omega arith) (omega arith) (omega arith)) kept.soughts_kept;
    }) was)
