-- What the statements on spans make of the rows that the tables hold.
use Rattle.std.proofs.Common.{
  ◌≡◌,
  ℕ,
  ℤ,
  ◌==◌,
  ◌&&◌,
  pos,
  List,
  [],
  ◌∷◌,
  map,
  filter,
  Bool,
  true,
  Ok,
  Some,
  None,
  refl,
  ap,
  subst,
  ◌∙◌,
  Option,
  arith,
  not,
  cond,
}
use Rattle.std.specs.List.{list_all}
use Rattle.std.specs.List.Sorted.{IsPermutation}
use Rattle.std.proofs.lemmas.List.Sorted.{IsPermutation-map}
use Rattle.sqlite.specs.declared.types.Value.TheVariants.{Null, Int, Text}
use Rattle.sqlite.specs.Order.{Row}
use Rattle.sqlite.specs.Ops.{is_true, from_truth, binary}
use Rattle.sqlite.specs.Term.{holds, col, lit}
use Rattle.sqlite.specs.Tree.{rowid, put_row}
use Rattle.sqlite_schema.specs.Names.{same_name}
use Rattle.sqlite_value.specs.Keys.{joined}
use Rattle.sqlite.specs.Command.TheVariants.{Delete, Insert, Update}
use Rattle.sqlite.specs.Source.TheVariants.{Values}
use Rattle.sqlite.specs.Effect.{value_rows}
use Rattle.sqlite_catalog.specs.Listing.{IsSound}
use Rattle.sqlite_schema.specs.declared.program.Program.{Program}
use Rattle.sqlite.specs.Program.{overlay}
use Rattle.sqlite_schema.specs.declared.schema.Keys.TheVariants.{Enforced}
use Rattle.sqlite.specs.Rowids.TheVariants.{Chosen, Given}
use Rattle.sqlite.specs.Edit.{edit_of, edited, id_in, taken_by}
use Rattle.sqlite_rules.specs.Calls.{ids_of}
use Rattle.sqlite_rules.specs.Edit.{without_all}
use Rattle.sqlite_rules.specs.Action.{works, Writes}
use Rattle.sqlite.specs.Values.{bound_value, or_null}
use Rattle.sqlite.specs.Cast.{cast}
use Rattle.sqlite.specs.Kind.TheVariants.{Integer}
use Rattle.sqlite.specs.State.{State, Executes}
use Rattle.sqlite.proofs.Callers.{runs_as, one_step, one_permutation, statement_of}
use Rattle.sqlite.specs.Listing.{understood}
use Rattle.store_tables.specs.Schema.{archive_schema, meta, spans}
use Rattle.store_tables.specs.Rows.{
  Rows,
  SpanRow,
  put_by,
  meta_values,
  span_values,
  day_or_null,
  with_span,
  with_version,
  without_span,
}
use Rattle.store_tables.proofs.Texts.{with_key}
use Rattle.store_tables.proofs.LaterStatements.{BecomesDated, beside, kept_of, late_same}
use Rattle.store_tables.proofs.SpanTexts.{
  insert_span,
  insert_span_is,
  insert_span_plain,
  delete_span,
  delete_span_is,
  delete_span_plain,
  set_version,
  set_version_is,
  set_version_plain,
}
use Rattle.store_tables.proofs.Writing.{inserts, deletes, updates, cast_int, cast_null}
use Rattle.store_tables.proofs.Finding.{simple, answered}
use Rattle.store_tables.proofs.Statements.{Becomes, becomes, no_work, others_of, own_on, pasts_on, sides_on, truth_of}
use Rattle.store_tables.proofs.Coded.{same_int, keeps_put, keeps_less, keeps_on}
use Rattle.list_laws.proofs.Lists.{map_map}

cast_day : (o : Option ℤ) → cast Integer (day_or_null o) ≡ day_or_null o
cast_day None = cast_null
cast_day (Some day) = cast_int day

pub inserts_span : (old new : State) (n : ℕ) (lo hi : Option ℤ) (count : ℕ) → old.now.schema ≡ archive_schema true
    → Executes insert_span (Int (pos n) ∷ day_or_null lo ∷ day_or_null hi ∷ []) old new (Ok count)
    → BecomesDated old new (with_span n lo hi)
inserts_span old new n lo hi count has h =
    let params = Int (pos n) ∷ day_or_null lo ∷ day_or_null hi ∷ [] in
    let terms = col 0 0 ∷ lit Null ∷ col 0 1 ∷ col 0 2 ∷ [] in
    let w = runs_as insert_span params old new (archive_schema true) has (Insert 7 (Values terms 4)) insert_span_is
    insert_span_plain count h in
    let did = inserts (archive_schema true) spans 7 refl refl old new.now w.tally params
    (statement_of insert_span (understood (archive_schema true) insert_span)) terms 4 has w.changed in
    let db = old.now.trees in
    let now = new.now.trees in
    let edit = edit_of db spans [] Chosen 0 (value_rows params 4 1 terms) in
    let applied = one_step (archive_schema true) Enforced db now edit refl did.1 in
    let late = late_same db now edit applied in
    let item : SpanRow = record { no = n; lo = lo; hi = hi } in
    let row : edited db edit ≡ put_row (span_values item) (db 12) = rw (
      cast_int (pos n),
      cast_day lo,
      cast_day hi,
      cast_null,
    ) refl in
    record {
      schema = did.0;
      sound = subst (λ s. IsSound s now) did.0 w.sound;
      same = λ _. refl;
      holds = λ rows dated typed was.
          let kept = kept_of rows db dated was in
          let after = put_by (λ (s : SpanRow). s.no) item rows.spans in
          beside rows rows.packs after rows.links rows.soughts db now edit applied (omega arith) (omega arith)
          dated (record {
            packs_kept = keeps_on _ _ _ (late 11 (omega arith) (omega arith) (omega arith)) kept.packs_kept;
            spans_kept = keeps_on _ _ (now 12) (applied.rows ∙ row)
                (keeps_put span_values (λ (s : SpanRow). s.no) (λ _. refl) item rows.spans (db 12) kept.spans_kept);
            links_kept = keeps_on _ _ _ (late 13 (omega arith) (omega arith) (omega arith)) kept.links_kept;
            soughts_kept = keeps_on _ _ _ (late 14 (omega arith) (omega arith) (omega arith)) kept.soughts_kept;
          }) was;
    }

passes_12 : (n : ℕ) (x : SpanRow) → list_all (holds ((Int (pos n) ∷ []) ∷ span_values x ∷ []))
    (with_key 0) ≡ (x.no == n)
unfolding binary
passes_12 n x = ap (λ b. is_true (from_truth (Some b)) && true) (same_int x.no n) ∙ truth_of (x.no == n)

no_work_12 : (olds : List Row) → works (archive_schema true) Enforced 0 12 olds [] ≡ []
unfolding same_name joined
no_work_12 olds = refl

pub deletes_span : (old new : State) (n count : ℕ) → old.now.schema ≡ archive_schema true
    → Executes delete_span (Int (pos n) ∷ []) old new (Ok count) → BecomesDated old new (without_span n)
deletes_span old new n count has h =
    let params = Int (pos n) ∷ [] in
    let q : Program = record { lets = []; body = simple 12 (with_key 0) (col 1 0 ∷ []) [] } in
    let w = runs_as delete_span params old new (archive_schema true) has (Delete 7 q) delete_span_is
    delete_span_plain count h in
    let did = deletes (archive_schema true) spans 7 refl refl old new.now w.tally params
    (statement_of delete_span (understood (archive_schema true) delete_span)) q has w.changed in
    let found = did.1 in
    let db = old.now.trees in
    let now = new.now.trees in
    let edit = edit_of db spans (ids_of found) Given 0 [] in
    let applied = one_step (archive_schema true) Enforced db now edit (no_work_12 (taken_by db edit)) did.3 in
    let late = late_same db now edit applied in
    record {
      schema = did.0;
      sound = subst (λ s. IsSound s now) did.0 w.sound;
      same = λ _. refl;
      holds = λ rows dated typed was.
          let kept = kept_of rows db dated was in
          let all = answered span_values params (with_key 0) (λ x. x.no == n) (passes_12 n) 12 (col 1 0 ∷ []) []
          (overlay db []) rows.spans found kept.spans_kept.is (did.2.answer Null) in
          let ids : IsPermutation
          (map (λ x. pos ((λ (s : SpanRow). s.no) x)) (filter (λ (x : SpanRow). x.no == n) rows.spans))
          (ids_of found) =
          subst (λ k. IsPermutation k (ids_of found)) (map_map _ _ (filter (λ (x : SpanRow). x.no == n) rows.spans))
          (IsPermutation-map (λ r. id_in (rowid r)) _ _ all) in
          let after = filter (λ (x : SpanRow). not (x.no == n)) rows.spans in
          beside rows rows.packs after rows.links rows.soughts db now edit applied (omega arith) (omega arith)
          dated (record {
            packs_kept = keeps_on _ _ _ (late 11 (omega arith) (omega arith) (omega arith)) kept.packs_kept;
            spans_kept = keeps_on _ _ (now 12) applied.rows
                (keeps_less span_values (λ (s : SpanRow). s.no) (λ _. refl) (λ x. x.no == n) rows.spans (db 12)
                (ids_of found) ids kept.spans_kept);
            links_kept = keeps_on _ _ _ (late 13 (omega arith) (omega arith) (omega arith)) kept.links_kept;
            soughts_kept = keeps_on _ _ _ (late 14 (omega arith) (omega arith) (omega arith)) kept.soughts_kept;
          }) was;
    }

-- ---- UPDATE of the version in the one row of meta
only_one : (c : Rows) → without_all (meta_values c ∷ []) (pos 1 ∷ []) ≡ []
only_one c = ap (λ b. cond (not b) (meta_values c ∷ []) []) (same_int 1 1)

sets_either : (old new : State) (count : ℕ) (b : Bool) → old.now.schema ≡ archive_schema b
    → Executes set_version [] old new (Ok count) → Becomes b old new (with_version 2)
sets_either old new count b has h =
    let project = col 1 0 ∷ col 1 0 ∷ lit Null ∷ lit (Int (pos 2)) ∷ col 1 3 ∷ col 1 4 ∷ [] in
    let q : Program = record { lets = []; body = simple 0 [] project [] } in
    let w = runs_as set_version [] old new (archive_schema b) has (Update 0 q) (set_version_is b)
    (set_version_plain b) count h in
    let did = updates (archive_schema b) meta 0 refl refl old new.now w.tally []
    (statement_of set_version (understood (archive_schema b) set_version)) q has w.changed in
    let rows = did.1 in
    let db = old.now.trees in
    let now = new.now.trees in
    becomes b old new w.sound did.0 (λ _. refl) (λ c fits was.
    let found : IsPermutation
    ((Int (pos 1) ∷ Int (pos 1) ∷ Null ∷ Int (pos 2) ∷ Int (pos c.next) ∷ Text c.society ∷ []) ∷ []) rows =
    answered meta_values [] [] (λ _. true) (λ _. refl) 0 project [] (overlay db []) (c ∷ []) rows was.meta
    (did.2.answer Null) in
    let one = one_permutation _ rows found in
    let edit = edit_of db meta (pos 1 ∷ []) Given 1
    ((Int (pos 1) ∷ Int (pos 1) ∷ Null ∷ Int (pos 2) ∷ Int (pos c.next) ∷ Text c.society ∷ []) ∷ []) in
    let applied = one_step (archive_schema b) Enforced db now edit (no_work b db edit refl refl)
    (subst (λ rs. Writes (archive_schema b) Enforced db (edit_of db meta (ids_of rs) Given 1 rs) (Ok now)) one
    did.3) in
    let same = others_of b db now edit applied in
    let row : edited db edit ≡ put_row (meta_values (with_version 2 c)) (without_all (db 0) (pos 1 ∷ [])) = rw
    (cast_null, cast_int (pos 1), cast_int (pos 2), cast_int (pos c.next)) refl in
    record {
      meta = applied.rows ∙ row ∙ ap (λ rs. put_row (meta_values (with_version 2 c)) (without_all rs (pos 1 ∷ [])))
          was.meta ∙ ap (put_row (meta_values (with_version 2 c))) (only_one c);
      batches = keeps_on _ _ _ (same 1 (omega arith) (omega arith)) was.batches;
      records = keeps_on _ _ _ (same 2 (omega arith) (omega arith)) was.records;
      receipts = keeps_on _ _ _ (same 4 (omega arith) (omega arith)) was.receipts;
      slips = keeps_on _ _ _ (same 5 (omega arith) (omega arith)) was.slips;
      sides = sides_on b c db now edit applied (omega arith) (omega arith) fits was.sides;
      own = own_on b c db now edit applied (omega arith) (omega arith) fits was.own;
      pasts = pasts_on b c db now edit applied (omega arith) fits was.pasts;
    })

pub sets_version : (old new : State) (count : ℕ) → old.now.schema ≡ archive_schema true
    → Executes set_version [] old new (Ok count) → BecomesDated old new (with_version 2)
sets_version old new count has h =
    let did = sets_either old new count true has h in
    record {
      schema = did.schema;
      sound = did.sound;
      same = did.same;
      holds = λ rows dated typed was. did.holds rows dated was;
    }

-- a day that may be missing, as it is bound
pub day_bound : (o : Option ℤ) → bound_value (or_null Int o) ≡ day_or_null o
day_bound None = refl
day_bound (Some day) = refl
