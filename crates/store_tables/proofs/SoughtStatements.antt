-- What the statements on what is looked for make of the rows that the tables hold.
use Rattle.std.proofs.Common.{
  ◌≡◌,
  ℕ,
  ◌==◌,
  ◌&&◌,
  pos,
  List,
  [],
  ◌∷◌,
  map,
  filter,
  not,
  true,
  Ok,
  Option,
  Some,
  refl,
  ap,
  subst,
  ◌∙◌,
  arith,
}
use Rattle.std.specs.List.{list_all}
use Rattle.std.specs.List.Sorted.{IsPermutation}
use Rattle.std.proofs.lemmas.List.Sorted.{IsPermutation-map}
use Rattle.sqlite.specs.declared.types.Value.TheVariants.{Null, Int, Text}
use Rattle.sqlite.specs.Order.{Row}
use Rattle.sqlite.specs.Ops.{is_true, from_truth, binary}
use Rattle.sqlite.specs.Term.{holds, col, lit}
use Rattle.sqlite.specs.Tree.{rowid, put_row}
use Rattle.sqlite_schema.specs.Names.{same_name}
use Rattle.sqlite_value.specs.Keys.{joined}
use Rattle.sqlite.specs.Command.TheVariants.{Delete, Insert}
use Rattle.sqlite.specs.Source.TheVariants.{Values}
use Rattle.sqlite.specs.Effect.{value_rows}
use Rattle.sqlite_catalog.specs.Listing.{IsSound}
use Rattle.sqlite_schema.specs.declared.program.Program.{Program}
use Rattle.sqlite.specs.Program.{overlay}
use Rattle.sqlite_schema.specs.declared.schema.Keys.TheVariants.{Enforced}
use Rattle.sqlite.specs.Rowids.TheVariants.{Chosen, Given}
use Rattle.sqlite.specs.Edit.{edit_of, edited, id_in, taken_by}
use Rattle.sqlite_rules.specs.Calls.{ids_of}
use Rattle.sqlite_rules.specs.Action.{works}
use Rattle.sqlite.specs.State.{State, Executes}
use Rattle.sqlite.proofs.Callers.{runs_as, one_step, statement_of}
use Rattle.sqlite.specs.Listing.{understood}
use Rattle.store_tables.specs.Schema.{archive_schema, soughts}
use Rattle.store_tables.specs.Rows.{SoughtRow, number_or_null, put_by, sought_values, with_sought, without_sought}
use Rattle.store_tables.proofs.Texts.{with_key}
use Rattle.store_tables.proofs.LaterStatements.{BecomesDated, beside, kept_of, late_same}
use Rattle.store_tables.proofs.SoughtTexts.{
  insert_sought,
  insert_sought_is,
  insert_sought_plain,
  delete_sought,
  delete_sought_is,
  delete_sought_plain,
}
use Rattle.store_tables.proofs.Writing.{inserts, deletes, cast_int, cast_null}
use Rattle.store_tables.proofs.Finding.{simple, answered}
use Rattle.store_tables.proofs.Statements.{cast_number, truth_of}
use Rattle.store_tables.proofs.Coded.{same_int, keeps_less, keeps_on, keeps_put}
use Rattle.list_laws.proofs.Lists.{map_map}

pub inserts_sought : (old new : State) (n : ℕ) (text : List ℕ) (target : Option ℕ) (count : ℕ)
    → old.now.schema ≡ archive_schema true
    → Executes insert_sought (Int (pos n) ∷ Text text ∷ number_or_null target ∷ []) old new (Ok count)
    → BecomesDated old new (with_sought n text target)
inserts_sought old new n text target count has h =
    let params = Int (pos n) ∷ Text text ∷ number_or_null target ∷ [] in
    let terms = col 0 0 ∷ lit Null ∷ col 0 1 ∷ col 0 2 ∷ [] in
    let w = runs_as insert_sought params old new (archive_schema true) has (Insert 9 (Values terms 4)) insert_sought_is
    insert_sought_plain count h in
    let did = inserts (archive_schema true) soughts 9 refl refl old new.now w.tally params
    (statement_of insert_sought (understood (archive_schema true) insert_sought)) terms 4 has w.changed in
    let db = old.now.trees in
    let now = new.now.trees in
    let edit = edit_of db soughts [] Chosen 0 (value_rows params 4 1 terms) in
    let applied = one_step (archive_schema true) Enforced db now edit refl did.1 in
    let late = late_same db now edit applied in
    let item : SoughtRow = record { no = n; text = text; target = target } in
    let row : edited db edit ≡ put_row (sought_values item) (db 14) = rw (
      cast_int (pos n),
      cast_number target,
      cast_null,
    ) refl in
    record {
      schema = did.0;
      sound = subst (λ s. IsSound s now) did.0 w.sound;
      same = λ _. refl;
      holds = λ rows dated typed was.
          let kept = kept_of rows db dated was in
          let after = put_by (λ (s : SoughtRow). s.no) item rows.soughts in
          beside rows rows.packs rows.spans rows.links after db now edit applied (omega arith) (omega arith)
          dated (record {
            packs_kept = keeps_on _ _ _ (late 11 (omega arith) (omega arith) (omega arith)) kept.packs_kept;
            spans_kept = keeps_on _ _ _ (late 12 (omega arith) (omega arith) (omega arith)) kept.spans_kept;
            links_kept = keeps_on _ _ _ (late 13 (omega arith) (omega arith) (omega arith)) kept.links_kept;
            soughts_kept = keeps_on _ _ (now 14) (applied.rows ∙ row)
                (keeps_put sought_values (λ (s : SoughtRow). s.no) (λ _. refl) item rows.soughts (db 14)
                kept.soughts_kept);
          }) was;
    }

passes_14 : (n : ℕ) (x : SoughtRow) → list_all (holds ((Int (pos n) ∷ []) ∷ sought_values x ∷ []))
    (with_key 0) ≡ (x.no == n)
unfolding binary
passes_14 n x = ap (λ b. is_true (from_truth (Some b)) && true) (same_int x.no n) ∙ truth_of (x.no == n)

no_work_14 : (olds : List Row) → works (archive_schema true) Enforced 0 14 olds [] ≡ []
unfolding same_name joined
no_work_14 olds = refl

pub deletes_sought : (old new : State) (n count : ℕ) → old.now.schema ≡ archive_schema true
    → Executes delete_sought (Int (pos n) ∷ []) old new (Ok count) → BecomesDated old new (without_sought n)
deletes_sought old new n count has h =
    let params = Int (pos n) ∷ [] in
    let q : Program = record { lets = []; body = simple 14 (with_key 0) (col 1 0 ∷ []) [] } in
    let w = runs_as delete_sought params old new (archive_schema true) has (Delete 9 q) delete_sought_is
    delete_sought_plain count h in
    let did = deletes (archive_schema true) soughts 9 refl refl old new.now w.tally params
    (statement_of delete_sought (understood (archive_schema true) delete_sought)) q has w.changed in
    let found = did.1 in
    let db = old.now.trees in
    let now = new.now.trees in
    let edit = edit_of db soughts (ids_of found) Given 0 [] in
    let applied = one_step (archive_schema true) Enforced db now edit (no_work_14 (taken_by db edit)) did.3 in
    let late = late_same db now edit applied in
    record {
      schema = did.0;
      sound = subst (λ s. IsSound s now) did.0 w.sound;
      same = λ _. refl;
      holds = λ rows dated typed was.
          let kept = kept_of rows db dated was in
          let all = answered sought_values params (with_key 0) (λ x. x.no == n) (passes_14 n) 14 (col 1 0 ∷ []) []
          (overlay db []) rows.soughts found kept.soughts_kept.is (did.2.answer Null) in
          let ids : IsPermutation
          (map (λ x. pos ((λ (s : SoughtRow). s.no) x)) (filter (λ (x : SoughtRow). x.no == n) rows.soughts))
          (ids_of found) =
          subst (λ k. IsPermutation k (ids_of found))
          (map_map _ _ (filter (λ (x : SoughtRow). x.no == n) rows.soughts))
          (IsPermutation-map (λ r. id_in (rowid r)) _ _ all) in
          let after = filter (λ (x : SoughtRow). not (x.no == n)) rows.soughts in
          beside rows rows.packs rows.spans rows.links after db now edit applied (omega arith) (omega arith)
          dated (record {
            packs_kept = keeps_on _ _ _ (late 11 (omega arith) (omega arith) (omega arith)) kept.packs_kept;
            spans_kept = keeps_on _ _ _ (late 12 (omega arith) (omega arith) (omega arith)) kept.spans_kept;
            links_kept = keeps_on _ _ _ (late 13 (omega arith) (omega arith) (omega arith)) kept.links_kept;
            soughts_kept = keeps_on _ _ (now 14) applied.rows
                (keeps_less sought_values (λ (s : SoughtRow). s.no) (λ _. refl) (λ x. x.no == n) rows.soughts (db 14)
                (ids_of found) ids kept.soughts_kept);
          }) was;
    }
