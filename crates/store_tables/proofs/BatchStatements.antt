-- What the statements on a batch and its rows make of the rows that the tables hold.
use Rattle.std.proofs.Common.{
  ◌≡◌,
  ℕ,
  ◌==◌,
  ◌&&◌,
  pos,
  Bool,
  true,
  false,
  List,
  [],
  ◌∷◌,
  ◌++◌,
  map,
  filter,
  if◌then◌else◌,
  Ok,
  Some,
  None,
  refl,
  sym,
  ap,
  subst,
  ◌∙◌,
  inl,
  inr,
  length,
  arith,
}
use Rattle.std.specs.List.{list_all, AllByRecursion, cons_option}
use Rattle.std.specs.List.Sorted.{IsPermutation}
use Rattle.std.proofs.lemmas.List.Sorted.{IsPermutation-map, length_permutation}
use Rattle.sqlite_rules.specs.Edit.{without_all}
use Rattle.sqlite.specs.declared.types.Value.TheVariants.{Null, Int}
use Rattle.sqlite.specs.Order.{Row}
use Rattle.sqlite.specs.Ops.{is_true, from_truth, binary}
use Rattle.sqlite.specs.Term.{holds, eval_all, col, lit}
use Rattle.sqlite.specs.Tree.{rowid, put_row}
use Rattle.sqlite_schema.specs.Names.{same_name}
use Rattle.sqlite_value.specs.Keys.{joined}
use Rattle.sqlite.specs.Command.TheVariants.{Delete, Update}
use Rattle.sqlite_schema.specs.declared.program.Program.{Program}
use Rattle.sqlite.specs.Program.{overlay}
use Rattle.sqlite_schema.specs.declared.schema.Keys.TheVariants.{Enforced}
use Rattle.sqlite.specs.Rowids.TheVariants.{Given}
use Rattle.sqlite.specs.Edit.{edit_of, edited, id_in, taken_by}
use Rattle.sqlite_rules.specs.Calls.{ids_of}
use Rattle.sqlite_rules.specs.Action.{works, Work, Writes}
use Rattle.sqlite.specs.State.{State, Executes}
use Rattle.sqlite.proofs.Callers.{runs_as, one_step, one_permutation, statement_of}
use Rattle.sqlite.specs.Listing.{understood}
use Rattle.store_tables.specs.Schema.{archive_schema, batches}
use Rattle.store_tables.specs.Rows.{Rows, BatchRow, Holds, Keeps, batch_values, with_closed, without_batch_row}
use Rattle.store_tables.proofs.BatchTexts.{
  close_batch,
  close_batch_is,
  close_batch_plain,
  delete_batch,
  delete_batch_is,
  delete_batch_plain,
}
use Rattle.store_tables.proofs.Texts.{with_key}
use Rattle.store_tables.proofs.Writing.{updates, deletes, cast_int, cast_null, Restrict, restricted_step}
use Rattle.store_tables.proofs.Finding.{simple, answered}
use Rattle.store_tables.proofs.Coded.{same_int, keeps_less, keeps_on}
use Rattle.store_tables.proofs.Changing.{at_key, none_changed, keeps_changed}
use Rattle.store_tables.proofs.Statements.{Becomes, becomes, no_work, others_of, own_on, pasts_on, sides_on, truth_of}
use Rattle.list_laws.proofs.Lists.{map_map}

permutation_none : {X : Type 0} (ys : List X) → IsPermutation [] ys → ys ≡ []
permutation_none [] h = refl
permutation_none (y ∷ ys) h = absurd (let e : length (y ∷ ys) ≡ 0 = length_permutation [] (y ∷ ys) h in cc)

one_refuses : (b : Bool) (v : Work) → Restrict v → AllByRecursion Restrict
    (cons_option (if b then Some v else None) [] ++ [])
one_refuses true v p = (p, tt)
one_refuses false v p = tt

-- what refers to a batch restricts its deletion
only_restricted : (b : Bool) (olds : List Row)
    → AllByRecursion Restrict (works (archive_schema b) Enforced 0 1 olds [])
unfolding same_name joined
only_restricted false olds = one_refuses _ _ refl
only_restricted true olds = one_refuses _ _ refl

passes_1 : (n : ℕ) (x : BatchRow) → list_all (holds ((Int (pos n) ∷ []) ∷ batch_values x ∷ [])) (with_key 0)
    ≡ (x.no == n)
unfolding binary
passes_1 n x = ap (λ b. is_true (from_truth (Some b)) && true) (same_int x.no n) ∙ truth_of (x.no == n)

pub closes_batch : (old new : State) (n count : ℕ) (b : Bool) → old.now.schema ≡ archive_schema b
    → Executes close_batch (Int (pos n) ∷ []) old new (Ok count) → Becomes b old new (with_closed n)
closes_batch old new n count b has h =
    let params = Int (pos n) ∷ [] in
    let project = col 1 0 ∷ col 1 0 ∷ lit Null ∷ lit (Int (pos 0)) ∷ [] in
    let q : Program = record { lets = []; body = simple 1 (with_key 0) project [] } in
    let w = runs_as close_batch params old new (archive_schema b) has (Update 1 q) (close_batch_is b)
    (close_batch_plain b)
    count h in
    let did = updates (archive_schema b) batches 1 refl refl old new.now w.tally params
    (statement_of close_batch (understood (archive_schema b) close_batch)) q has w.changed in
    let read = did.1 in
    let db = old.now.trees in
    let now = new.now.trees in
    let key = (λ (x : BatchRow). x.no) in
    let g = (λ (b : BatchRow). record b { is_open = false }) in
    let shown = (λ (x : BatchRow). eval_all project (params ∷ batch_values x ∷ [])) in
    let found = (λ (rows : Rows) (was : Holds rows db). answered batch_values params (with_key 0) (λ x. x.no == n)
    (passes_1 n) 1 project [] (overlay db []) rows.batches read was.batches.is (did.2.answer Null)) in
    becomes b old new w.sound did.0 (λ _. refl) (λ rows fits was.
    elim (at_key key n rows.batches was.batches.rise) [
      | inl none ↦
          let empty : read ≡ [] = permutation_none read
          (subst (λ xs. IsPermutation (map shown xs) read) none (found rows was)) in
          let edit = edit_of db batches [] Given 1 [] in
          let applied = restricted_step (archive_schema b) Enforced db now edit (only_restricted b (taken_by db edit))
          (subst (λ rs. Writes (archive_schema b) Enforced db (edit_of db batches (ids_of rs) Given 1 rs) (Ok now))
          empty did.3) in
          let same = others_of b db now edit applied in
          record {
            meta = same 0 (omega arith) (omega arith) ∙ was.meta;
            batches = subst (λ xs. Keeps batch_values key xs (now 1))
                (sym (none_changed key n g rows.batches none)) (keeps_on _ _ (now 1) applied.rows was.batches);
            records = keeps_on _ _ _ (same 2 (omega arith) (omega arith)) was.records;
            receipts = keeps_on _ _ _ (same 4 (omega arith) (omega arith)) was.receipts;
            slips = keeps_on _ _ _ (same 5 (omega arith) (omega arith)) was.slips;
            sides = sides_on b rows db now edit applied (omega arith) (omega arith) fits was.sides;
            own = own_on b rows db now edit applied (omega arith) (omega arith) fits was.own;
            pasts = pasts_on b rows db now edit applied (omega arith) fits was.pasts;
          }
      | inr (x, one, here) ↦
          let single : read ≡ shown x ∷ [] = one_permutation _ read
          (subst (λ xs. IsPermutation (map shown xs) read) one (found rows was)) in
          let edit = edit_of db batches (pos x.no ∷ []) Given 1 (shown x ∷ []) in
          let applied = one_step (archive_schema b) Enforced db now edit
          (no_work b db edit refl refl)
          (subst (λ rs. Writes (archive_schema b) Enforced db (edit_of db batches (ids_of rs) Given 1 rs) (Ok now))
          single did.3) in
          let same = others_of b db now edit applied in
          let row : edited db edit ≡ put_row (batch_values (g x)) (without_all (db 1) (pos x.no ∷ [])) = rw
          (cast_null, cast_int (pos x.no), cast_int (pos 0)) refl in
          let away = ap (λ k. put_row (batch_values (g x)) (without_all (db 1) (pos k ∷ []))) here in
          record {
            meta = same 0 (omega arith) (omega arith) ∙ was.meta;
            batches = keeps_on _ _ (now 1) (applied.rows ∙ row ∙ away)
                (keeps_changed batch_values key (λ _. refl) n g x rows.batches (db 1) one here here was.batches);
            records = keeps_on _ _ _ (same 2 (omega arith) (omega arith)) was.records;
            receipts = keeps_on _ _ _ (same 4 (omega arith) (omega arith)) was.receipts;
            slips = keeps_on _ _ _ (same 5 (omega arith) (omega arith)) was.slips;
            sides = sides_on b rows db now edit applied (omega arith) (omega arith) fits was.sides;
            own = own_on b rows db now edit applied (omega arith) (omega arith) fits was.own;
            pasts = pasts_on b rows db now edit applied (omega arith) fits was.pasts;
          }
    ])

pub deletes_batch : (old new : State) (n count : ℕ) (b : Bool) → old.now.schema ≡ archive_schema b
    → Executes delete_batch (Int (pos n) ∷ []) old new (Ok count) → Becomes b old new (without_batch_row n)
deletes_batch old new n count b has h =
    let params = Int (pos n) ∷ [] in
    let q : Program = record { lets = []; body = simple 1 (with_key 0) (col 1 0 ∷ []) [] } in
    let w = runs_as delete_batch params old new (archive_schema b) has (Delete 1 q) (delete_batch_is b)
    (delete_batch_plain b)
    count h in
    let did = deletes (archive_schema b) batches 1 refl refl old new.now w.tally params
    (statement_of delete_batch (understood (archive_schema b) delete_batch)) q has w.changed in
    let found = did.1 in
    let db = old.now.trees in
    let now = new.now.trees in
    let edit = edit_of db batches (ids_of found) Given 0 [] in
    let applied = restricted_step (archive_schema b) Enforced db now edit (only_restricted b (taken_by db edit)) did.3
    in
    let same = others_of b db now edit applied in
    becomes b old new w.sound did.0 (λ _. refl) (λ rows fits was.
    let all = answered batch_values params (with_key 0) (λ x. x.no == n) (passes_1 n) 1 (col 1 0 ∷ []) []
    (overlay db []) rows.batches found was.batches.is (did.2.answer Null) in
    let ids : IsPermutation
    (map (λ x. pos ((λ (b : BatchRow). b.no) x)) (filter (λ (x : BatchRow). x.no == n) rows.batches))
    (ids_of found) =
    subst (λ k. IsPermutation k (ids_of found)) (map_map _ _ (filter (λ (x : BatchRow). x.no == n) rows.batches))
    (IsPermutation-map (λ r. id_in (rowid r)) _ _ all) in
    record {
      meta = same 0 (omega arith) (omega arith) ∙ was.meta;
      batches = keeps_on _ _ (now 1) applied.rows
          (keeps_less batch_values (λ (b : BatchRow). b.no) (λ _. refl) (λ x. x.no == n) rows.batches (db 1)
          (ids_of found) ids was.batches);
      records = keeps_on _ _ _ (same 2 (omega arith) (omega arith)) was.records;
      receipts = keeps_on _ _ _ (same 4 (omega arith) (omega arith)) was.receipts;
      slips = keeps_on _ _ _ (same 5 (omega arith) (omega arith)) was.slips;
      sides = sides_on b rows db now edit applied (omega arith) (omega arith) fits was.sides;
      own = own_on b rows db now edit applied (omega arith) (omega arith) fits was.own;
      pasts = pasts_on b rows db now edit applied (omega arith) fits was.pasts;
    })
