-- What the statements on links make of the rows that the tables hold.
use Rattle.std.proofs.Common.{
  ◌≡◌,
  ℕ,
  ℤ,
  ◌==◌,
  ◌&&◌,
  ◌||◌,
  Bool,
  List,
  [],
  ◌∷◌,
  map,
  filter,
  not,
  true,
  false,
  Ok,
  Some,
  refl,
  sym,
  ap,
  ap₂,
  subst,
  ◌∙◌,
  arith,
}
use Rattle.std.specs.List.{list_all, list_any, AllByRecursion}
use Rattle.std.specs.List.Sorted.{IsPermutation}
use Rattle.std.proofs.lemmas.List.Sorted.{IsPermutation-map}
use Rattle.sqlite.specs.declared.types.Value.TheVariants.{Null, Int}
use Rattle.sqlite.specs.Order.{Row}
use Rattle.sqlite.specs.Ops.{is_true, from_truth, binary}
use Rattle.sqlite.specs.Term.{holds, col, lit}
use Rattle.sqlite.specs.Tree.{Trees, rowid, put_row}
use Rattle.sqlite_schema.specs.Names.{same_name}
use Rattle.sqlite_value.specs.Keys.{joined}
use Rattle.sqlite.specs.Command.TheVariants.{Delete, Insert}
use Rattle.sqlite.specs.Source.TheVariants.{Values}
use Rattle.sqlite.specs.Effect.{value_rows}
use Rattle.sqlite_catalog.specs.Listing.{IsSound}
use Rattle.sqlite_schema.specs.declared.program.Program.{Program}
use Rattle.sqlite.specs.Program.{overlay}
use Rattle.sqlite_schema.specs.declared.schema.Keys.TheVariants.{Enforced}
use Rattle.sqlite.specs.Rowids.TheVariants.{Chosen, Given}
use Rattle.sqlite.specs.Edit.{edit_of, edited, id_in, taken_by}
use Rattle.sqlite_rules.specs.Edit.{Applies, Edit, are_fresh, is_taken, put_all}
use Rattle.sqlite_rules.specs.Calls.{ids_of}
use Rattle.sqlite_rules.specs.Action.{works}
use Rattle.sqlite.specs.State.{State, Executes}
use Rattle.sqlite.proofs.Callers.{runs_as, one_step, statement_of}
use Rattle.sqlite.specs.Listing.{understood}
use Rattle.store_tables.specs.Reading.{AreTyped, IsTypedLink, IsU32}
use Rattle.store_tables.specs.Schema.{archive_schema, links}
use Rattle.store_tables.specs.Rows.{
  Holds,
  Rows,
  Keeps,
  LinkRow,
  integer_at,
  is_pair,
  link_place,
  link_values,
  pair_place,
  put_pair,
  with_link,
  without_link,
}
use Rattle.store_tables.proofs.Texts.{with_key}
use Rattle.store_tables.proofs.LaterStatements.{BecomesDated, beside, kept_of, late_same}
use Rattle.store_tables.proofs.LinkTexts.{
  insert_link,
  insert_link_is,
  insert_link_plain,
  delete_link,
  delete_link_is,
  delete_link_plain,
}
use Rattle.store_tables.proofs.Pairing.{integer_order, is_place, put_at_place}
use Rattle.store_tables.proofs.Writing.{inserts, deletes, cast_int, cast_null}
use Rattle.store_tables.proofs.Finding.{simple, answered}
use Rattle.store_tables.proofs.Statements.{truth_of}
use Rattle.store_tables.proofs.Coded.{filter_same, keeps_less_at, keeps_on, keeps_put_at, same_at}
use Rattle.list_laws.proofs.Lists.{map_map}

-- the row of a pair
abbrev row_of : ℕ → ℕ → LinkRow
row_of target n = record { target = target; no = n }

-- what the INSERT does to the trees
abbrev inserting : Trees → ℕ → ℕ → Edit
inserting db target n =
    edit_of db links [] Chosen 0
    (value_rows (Int (integer_at (pair_place target n)) ∷ []) 2 1 (col 0 0 ∷ lit Null ∷ []))

news_are : (db : Trees) (target n : ℕ) → (inserting db target n).news ≡ link_values (row_of target n) ∷ []
news_are db target n = rw (cast_int (integer_at (pair_place target n)), cast_null) refl

inserted : (old new : State) (target n : ℕ) (count : ℕ) → old.now.schema ≡ archive_schema true
    → Executes insert_link (Int (integer_at (pair_place target n)) ∷ []) old new (Ok count)
    → (new.now.schema ≡ archive_schema true) × IsSound (archive_schema true) new.now.trees
    × Applies (archive_schema true) Enforced old.now.trees (inserting old.now.trees target n) new.now.trees
inserted old new target n count has h =
    let params = Int (integer_at (pair_place target n)) ∷ [] in
    let terms = col 0 0 ∷ lit Null ∷ [] in
    let w = runs_as insert_link params old new (archive_schema true) has (Insert 8 (Values terms 2)) insert_link_is
    insert_link_plain count h in
    let did = inserts (archive_schema true) links 8 refl refl old new.now w.tally params
    (statement_of insert_link (understood (archive_schema true) insert_link)) terms 2 has w.changed in (
      did.0,
      subst (λ s. IsSound s new.now.trees) did.0 w.sound,
      one_step (archive_schema true) Enforced old.now.trees new.now.trees (inserting old.now.trees target n) refl
          did.1,
    )

inserts_link : (old new : State) (target n : ℕ) (count : ℕ) → IsU32 n → old.now.schema ≡ archive_schema true
    → Executes insert_link (Int (integer_at (pair_place target n)) ∷ []) old new (Ok count)
    → BecomesDated old new (with_link target n)
inserts_link old new target n count low has h =
    let (schema, sound, applied) = inserted old new target n count has h in
    let db = old.now.trees in
    let now = new.now.trees in
    let edit = inserting db target n in
    let late = late_same db now edit applied in
    let item : LinkRow = row_of target n in
    let row : edited db edit ≡ put_row (link_values item) (db 13) = ap (put_all (db 13)) (news_are db target n) in
    record {
      schema = schema;
      sound = sound;
      same = λ _. refl;
      holds = λ rows dated typed was.
          let kept = kept_of rows db dated was in
          beside rows rows.packs rows.spans (put_pair item rows.links) rows.soughts db now edit applied (omega arith)
          (omega arith) dated (record {
            packs_kept = keeps_on _ _ _ (late 11 (omega arith) (omega arith) (omega arith)) kept.packs_kept;
            spans_kept = keeps_on _ _ _ (late 12 (omega arith) (omega arith) (omega arith)) kept.spans_kept;
            links_kept = subst (λ ls. Keeps link_values link_place ls (now 13))
                (sym (put_at_place item low rows.links typed.links))
                (keeps_on _ _ (now 13) (applied.rows ∙ row)
                (keeps_put_at integer_at integer_order link_values link_place (λ _. refl) item rows.links (db 13)
                kept.links_kept));
            soughts_kept = keeps_on _ _ _ (late 14 (omega arith) (omega arith) (omega arith)) kept.soughts_kept;
          }) was;
    }

-- ---- a pair that is written was not there
not_taken : (b : Bool) → (not b && true) ≡ true → b ≡ false
not_taken true h = absurd cc
not_taken false h = refl

pub taken_by_place : (item : LinkRow) (ls : List LinkRow) → is_taken (map link_values ls) (link_values item)
    ≡ list_any (λ l. link_place l == link_place item) ls
taken_by_place item [] = refl
taken_by_place item (l ∷ ls) =
    ap₂ (λ a b. a || b) (same_at integer_at integer_order (link_place l) (link_place item)) (taken_by_place item ls)

pub place_is_pair : (target n : ℕ) → IsU32 n → (ls : List LinkRow) → AllByRecursion IsTypedLink ls
    → list_any (λ l. link_place l == pair_place target n) ls ≡ list_any (is_pair target n) ls
place_is_pair target n low [] h = refl
place_is_pair target n low (l ∷ ls) h =
    ap₂ (λ a b. a || b) (is_place l.target l.no target n h.0.1 low) (place_is_pair target n low ls h.1)

was_not_there : (old new : State) (target n : ℕ) (count : ℕ) → IsU32 n → old.now.schema ≡ archive_schema true
    → Executes insert_link (Int (integer_at (pair_place target n)) ∷ []) old new (Ok count) → (rows : Rows)
    → rows.has_spans ≡ true → AreTyped rows → Holds rows old.now.trees → list_any (is_pair target n) rows.links ≡ false
was_not_there old new target n count low has h rows dated typed was =
    let (schema, sound, applied) = inserted old new target n count has h in
    let db = old.now.trees in
    let item : LinkRow = row_of target n in
    let untaken : is_taken (db 13) (link_values item) ≡ false = not_taken (is_taken (db 13) (link_values item))
    (subst (λ news. are_fresh (db 13) news ≡ true) (news_are db target n) applied.fresh) in
    let kept = kept_of rows db dated was in
    sym (place_is_pair target n low rows.links typed.links) ∙ sym (taken_by_place item rows.links)
    ∙ ap (λ rs. is_taken rs (link_values item)) (sym kept.links_kept.is) ∙ untaken

passes_13 : (place : ℕ) (x : LinkRow) → list_all (holds ((Int (integer_at place) ∷ []) ∷ link_values x ∷ []))
    (with_key 0) ≡ (link_place x == place)
unfolding binary
passes_13 place x = ap (λ b. is_true (from_truth (Some b)) && true)
    (same_at integer_at integer_order (link_place x) place) ∙ truth_of (link_place x == place)

no_work_13 : (olds : List Row) → works (archive_schema true) Enforced 0 13 olds [] ≡ []
unfolding same_name joined
no_work_13 olds = refl

-- typed links that do not have the place of a pair are those that are not the pair
others_stay : (target n : ℕ) → IsU32 n → (ls : List LinkRow) → AllByRecursion IsTypedLink ls
    → filter (λ l. not (link_place l == pair_place target n)) ls ≡ filter (λ l. not (is_pair target n l)) ls
others_stay target n low ls typed = filter_same _ _ ls (each ls typed)
  where
    each : (ls : List LinkRow) → AllByRecursion IsTypedLink ls
        → AllByRecursion (λ l. not (link_place l == pair_place target n) ≡ not (is_pair target n l)) ls
    each [] h = tt
    each (l ∷ ls) h = (ap not (is_place l.target l.no target n h.0.1 low), each ls h.1)

deletes_link : (old new : State) (target n count : ℕ) → IsU32 n → old.now.schema ≡ archive_schema true
    → Executes delete_link (Int (integer_at (pair_place target n)) ∷ []) old new (Ok count)
    → BecomesDated old new (without_link target n)
deletes_link old new target n count low has h =
    let place = pair_place target n in
    let params = Int (integer_at place) ∷ [] in
    let q : Program = record { lets = []; body = simple 13 (with_key 0) (col 1 0 ∷ []) [] } in
    let w = runs_as delete_link params old new (archive_schema true) has (Delete 8 q) delete_link_is
    delete_link_plain count h in
    let did = deletes (archive_schema true) links 8 refl refl old new.now w.tally params
    (statement_of delete_link (understood (archive_schema true) delete_link)) q has w.changed in
    let found = did.1 in
    let db = old.now.trees in
    let now = new.now.trees in
    let edit = edit_of db links (ids_of found) Given 0 [] in
    let applied = one_step (archive_schema true) Enforced db now edit (no_work_13 (taken_by db edit)) did.3 in
    let late = late_same db now edit applied in
    record {
      schema = did.0;
      sound = subst (λ s. IsSound s now) did.0 w.sound;
      same = λ _. refl;
      holds = λ rows dated typed was.
          let kept = kept_of rows db dated was in
          let all = answered link_values params (with_key 0) (λ x. link_place x == place) (passes_13 place) 13
          (col 1 0 ∷ []) [] (overlay db []) rows.links found kept.links_kept.is (did.2.answer Null) in
          let ids : IsPermutation
          (map (λ x. integer_at (link_place x)) (filter (λ (x : LinkRow). link_place x == place) rows.links))
          (ids_of found) =
          subst (λ k. IsPermutation k (ids_of found))
          (map_map _ _ (filter (λ (x : LinkRow). link_place x == place) rows.links))
          (IsPermutation-map (λ r. id_in (rowid r)) _ _ all) in
          let less = keeps_less_at integer_at integer_order link_values link_place (λ _. refl)
          (λ x. link_place x == place) rows.links (db 13) (ids_of found) ids kept.links_kept in
          let after = filter (λ (x : LinkRow). not (is_pair target n x)) rows.links in
          beside rows rows.packs rows.spans after rows.soughts db now edit applied (omega arith) (omega arith)
          dated (record {
            packs_kept = keeps_on _ _ _ (late 11 (omega arith) (omega arith) (omega arith)) kept.packs_kept;
            spans_kept = keeps_on _ _ _ (late 12 (omega arith) (omega arith) (omega arith)) kept.spans_kept;
            links_kept = subst (λ ls. Keeps link_values link_place ls (now 13))
                (others_stay target n low rows.links typed.links) (keeps_on _ _ (now 13) applied.rows less);
            soughts_kept = keeps_on _ _ _ (late 14 (omega arith) (omega arith) (omega arith)) kept.soughts_kept;
          }) was;
    }

-- ---- the same by the integer of a pair
module _ (old new : State) (target n count : ℕ) (integer : ℤ) (is : integer ≡ integer_at (pair_place target n))
    (low : IsU32 n) (has : old.now.schema ≡ archive_schema true) where
  pub inserts_by : Executes insert_link (Int integer ∷ []) old new (Ok count)
      → BecomesDated old new (with_link target n)
  inserts_by h = inserts_link old new target n count low has
      (subst (λ i. Executes insert_link (Int i ∷ []) old new (Ok count)) is h)

  pub new_by : Executes insert_link (Int integer ∷ []) old new (Ok count) → (rows : Rows) → rows.has_spans ≡ true
      → AreTyped rows → Holds rows old.now.trees → list_any (is_pair target n) rows.links ≡ false
  new_by h = was_not_there old new target n count low has
      (subst (λ i. Executes insert_link (Int i ∷ []) old new (Ok count)) is h)

  pub deletes_by : Executes delete_link (Int integer ∷ []) old new (Ok count)
      → BecomesDated old new (without_link target n)
  deletes_by h = deletes_link old new target n count low has
      (subst (λ i. Executes delete_link (Int i ∷ []) old new (Ok count)) is h)
