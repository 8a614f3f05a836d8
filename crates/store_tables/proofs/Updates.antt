-- What an UPDATE at one key makes of the rows that the tables hold, and how many rows it counts.
use Rattle.std.proofs.Common.{
  ◌≡◌,
  ◌≢◌,
  ℕ,
  ◌==◌,
  ◌&&◌,
  pos,
  List,
  [],
  ◌∷◌,
  map,
  filter,
  true,
  Ok,
  Some,
  refl,
  sym,
  ap,
  subst,
  ◌∙◌,
  arith,
  Bool,
}
use Rattle.std.specs.List.{list_all}
use Rattle.std.specs.List.Sorted.{IsPermutation}
use Rattle.std.proofs.lemmas.List.Sorted.{length_permutation}
use Rattle.sqlite_rules.specs.Edit.{without_all}
use Rattle.sqlite.specs.declared.types.Value.TheVariants.{Null, Int, Text}
use Rattle.sqlite.specs.Order.{Row}
use Rattle.sqlite.specs.Ops.{is_true, from_truth, binary}
use Rattle.sqlite.specs.Term.{holds, eval_all, col, lit}
use Rattle.sqlite.specs.Tree.{Trees, put_row}
use Rattle.sqlite.specs.Command.TheVariants.{Update}
use Rattle.sqlite_schema.specs.declared.program.Program.{Program}
use Rattle.sqlite.specs.Program.{overlay}
use Rattle.sqlite_schema.specs.declared.schema.Keys.TheVariants.{Enforced}
use Rattle.sqlite.specs.Rowids.TheVariants.{Given}
use Rattle.sqlite.specs.Edit.{edit_of, edited, taken_by}
use Rattle.sqlite_rules.specs.Calls.{ids_of}
use Rattle.sqlite_rules.specs.Action.{Writes}
use Rattle.sqlite.specs.State.{State, Executes}
use Rattle.sqlite.proofs.Callers.{runs_as, one_step, one_permutation, statement_of}
use Rattle.sqlite.specs.Listing.{understood}
use Rattle.store_tables.specs.Schema.{archive_schema, records, slips}
use Rattle.store_tables.specs.Rows.{
  Rows,
  RecordRow,
  SlipRow,
  Holds,
  Keeps,
  record_values,
  slip_values,
  record_at,
  with_record_row,
  with_undone,
}
use Rattle.store_tables.proofs.Texts.{
  with_key,
  slips_place,
  slips_listed,
  update_record,
  update_record_is,
  update_record_plain,
  undo_slip,
  undo_slip_is,
  undo_slip_plain,
}
use Rattle.store_tables.proofs.Writing.{updates, cast_int, cast_null, restricted_step}
use Rattle.store_tables.proofs.Finding.{simple, answered}
use Rattle.store_tables.proofs.Coded.{same_int, keeps_on}
use Rattle.store_tables.proofs.Changing.{at_key, put_over, none_changed, keeps_changed}
use Rattle.store_tables.proofs.Statements.{
  Becomes,
  becomes,
  no_work,
  others_of,
  own_on,
  pasts_on,
  sides_on,
  only_restricted,
  only_restricted_slips,
  truth_of,
}
use Rattle.std.proofs.Common.{◌⊎◌, inl, inr, length, unwrap_or}

permutation_none : {X : Type 0} (ys : List X) → IsPermutation [] ys → ys ≡ []
permutation_none [] h = refl
permutation_none (y ∷ ys) h = absurd (let e : length (y ∷ ys) ≡ 0 = length_permutation [] (y ∷ ys) h in cc)

passes_2 : (params : Row) (n : ℕ) (x : RecordRow) → list_all (holds ((Int (pos n) ∷ params) ∷ record_values x ∷ []))
    (with_key 0) ≡ (x.no == n)
unfolding binary
passes_2 params n x = ap (λ b. is_true (from_truth (Some b)) && true) (same_int x.no n) ∙ truth_of (x.no == n)

pub updates_record : (old new : State) (n : ℕ) (kind : List ℕ) (batch : ℕ) (count : ℕ) (b : Bool)
    → old.now.schema ≡ archive_schema b
    → Executes update_record (Int (pos n) ∷ Text kind ∷ Int (pos batch) ∷ []) old new (Ok count)
    → Becomes b old new (record_at n kind batch)
    × ((rows : Rows) → Holds rows old.now.trees
    → count ≡ length (filter (λ (x : RecordRow). x.no == n) rows.records))
updates_record old new n kind batch count b has h =
    let params = Int (pos n) ∷ Text kind ∷ Int (pos batch) ∷ [] in
    let project = col 1 0 ∷ col 1 0 ∷ lit Null ∷ col 0 1 ∷ col 0 2 ∷ [] in
    let q : Program = record { lets = []; body = simple 2 (with_key 0) project [] } in
    let w = runs_as update_record params old new (archive_schema b) has (Update 2 q) (update_record_is b)
    (update_record_plain b) count h in
    let did = updates (archive_schema b) records 2 refl refl old new.now w.tally params
    (statement_of update_record (understood (archive_schema b) update_record)) q has w.changed in
    let read = did.1 in
    let db = old.now.trees in
    let now = new.now.trees in
    let key = (λ (x : RecordRow). x.no) in
    let g = (λ (r : RecordRow). record r { kind = kind; batch = batch }) in
    let shown = (λ (x : RecordRow). eval_all project (params ∷ record_values x ∷ [])) in
    let counted : count ≡ unwrap_or (Some (length (edit_of db records (ids_of read) Given 1 read).news)) 0 = w.counted
    ∙ ap (λ o. unwrap_or o 0) did.4 in
    let found = (λ (rows : Rows) (was : Holds rows db). answered record_values params (with_key 0) (λ x. x.no == n)
    (passes_2 (Text kind ∷ Int (pos batch) ∷ []) n) 2 project [] (overlay db []) rows.records read was.records.is
    (did.2.answer Null)) in (
      becomes b old new w.sound did.0 (λ _. refl) (λ rows fits was.
          elim (at_key key n rows.records was.records.rise) [
            | inl none ↦
                let empty : read ≡ [] = permutation_none read
                (subst (λ xs. IsPermutation (map shown xs) read) none (found rows was)) in
                let edit = edit_of db records [] Given 1 [] in
                let applied = restricted_step (archive_schema b) Enforced db now edit
                (only_restricted b (taken_by db edit))
                (subst (λ rs. Writes (archive_schema b) Enforced db (edit_of db records (ids_of rs) Given 1 rs)
                (Ok now)) empty did.3) in
                let same = others_of b db now edit applied in
                record {
                  meta = same 0 (omega arith) (omega arith) ∙ was.meta;
                  batches = keeps_on _ _ _ (same 1 (omega arith) (omega arith)) was.batches;
                  records = subst (λ xs. Keeps record_values key xs (now 2))
                      (sym (none_changed key n g rows.records none)) (keeps_on _ _ (now 2) applied.rows was.records);
                  receipts = keeps_on _ _ _ (same 4 (omega arith) (omega arith)) was.receipts;
                  slips = keeps_on _ _ _ (same 5 (omega arith) (omega arith)) was.slips;
                  sides = sides_on b rows db now edit applied (omega arith) (omega arith) fits was.sides;
                  own = own_on b rows db now edit applied (omega arith) (omega arith) fits was.own;
                  pasts = pasts_on b rows db now edit applied (omega arith) fits was.pasts;
                }
            | inr (x, one, here) ↦
                let single : read ≡ shown x ∷ [] = one_permutation _ read
                (subst (λ xs. IsPermutation (map shown xs) read) one (found rows was)) in
                let edit = edit_of db records (pos x.no ∷ []) Given 1 (shown x ∷ []) in
                let applied = one_step (archive_schema b) Enforced db now edit
                (no_work b db edit refl refl)
                (subst (λ rs. Writes (archive_schema b) Enforced db (edit_of db records (ids_of rs) Given 1 rs)
                (Ok now)) single did.3) in
                let same = others_of b db now edit applied in
                let row : edited db edit ≡ put_row (record_values (g x)) (without_all (db 2) (pos x.no ∷ [])) = rw
                (cast_null, cast_int (pos x.no), cast_int (pos batch)) refl in
                let away = ap (λ k. put_row (record_values (g x)) (without_all (db 2) (pos k ∷ []))) here in
                record {
                  meta = same 0 (omega arith) (omega arith) ∙ was.meta;
                  batches = keeps_on _ _ _ (same 1 (omega arith) (omega arith)) was.batches;
                  records = keeps_on _ _ (now 2) (applied.rows ∙ row ∙ away)
                      (keeps_changed record_values key (λ _. refl) n g x rows.records (db 2) one here here was.records);
                  receipts = keeps_on _ _ _ (same 4 (omega arith) (omega arith)) was.receipts;
                  slips = keeps_on _ _ _ (same 5 (omega arith) (omega arith)) was.slips;
                  sides = sides_on b rows db now edit applied (omega arith) (omega arith) fits was.sides;
                  own = own_on b rows db now edit applied (omega arith) (omega arith) fits was.own;
                  pasts = pasts_on b rows db now edit applied (omega arith) fits was.pasts;
                }
          ]),
      λ rows was. elim (at_key key n rows.records was.records.rise) [
        | inl none ↦
            let empty : read ≡ [] = permutation_none read
            (subst (λ xs. IsPermutation (map shown xs) read) none (found rows was)) in
            counted ∙ ap (λ rs. length (edit_of db records (ids_of rs) Given 1 rs).news) empty ∙ sym (ap length none)
        | inr (x, one, here) ↦
            let single : read ≡ shown x ∷ [] = one_permutation _ read
            (subst (λ xs. IsPermutation (map shown xs) read) one (found rows was)) in
            counted ∙ ap (λ rs. length (edit_of db records (ids_of rs) Given 1 rs).news) single ∙ sym (ap length one)
      ],
    )

passes_5 : (params : Row) (n : ℕ) (x : SlipRow) → list_all (holds ((Int (pos n) ∷ params) ∷ slip_values x ∷ []))
    (with_key 0) ≡ (x.no == n)
unfolding binary
passes_5 params n x = ap (λ b. is_true (from_truth (Some b)) && true) (same_int x.no n) ∙ truth_of (x.no == n)

pub undoes_slip : (old new : State) (n : ℕ) (count : ℕ) (b : Bool) → old.now.schema ≡ archive_schema b
    → Executes undo_slip (Int (pos n) ∷ []) old new (Ok count)
    → Becomes b old new (with_undone n)
    × ((rows : Rows) → Holds rows old.now.trees → count ≡ length (filter (λ (x : SlipRow). x.no == n) rows.slips))
undoes_slip old new n count b has h =
    let params = Int (pos n) ∷ [] in
    let project = col 1 0 ∷ col 1 0 ∷ lit Null ∷ col 1 2 ∷ col 1 3 ∷ lit (Int (pos 1)) ∷ [] in
    let q : Program = record { lets = []; body = simple 5 (with_key 0) project [] } in
    let w = runs_as undo_slip params old new (archive_schema b) has (Update (slips_place b) q) (undo_slip_is b)
    (undo_slip_plain b)
    count h in
    let did = updates (archive_schema b) slips (slips_place b) (slips_listed b) refl old new.now w.tally params
    (statement_of undo_slip (understood (archive_schema b) undo_slip)) q has w.changed in
    let read = did.1 in
    let db = old.now.trees in
    let now = new.now.trees in
    let key = (λ (x : SlipRow). x.no) in
    let g = (λ (s : SlipRow). record s { is_undone = true }) in
    let shown = (λ (x : SlipRow). eval_all project (params ∷ slip_values x ∷ [])) in
    let counted : count ≡ unwrap_or (Some (length (edit_of db slips (ids_of read) Given 1 read).news)) 0 = w.counted
    ∙ ap (λ o. unwrap_or o 0) did.4 in
    let found = (λ (rows : Rows) (was : Holds rows db). answered slip_values params (with_key 0) (λ x. x.no == n)
    (passes_5 [] n) 5 project [] (overlay db []) rows.slips read was.slips.is (did.2.answer Null)) in (
      becomes b old new w.sound did.0 (λ _. refl) (λ rows fits was.
          elim (at_key key n rows.slips was.slips.rise) [
            | inl none ↦
                let empty : read ≡ [] = permutation_none read
                (subst (λ xs. IsPermutation (map shown xs) read) none (found rows was)) in
                let edit = edit_of db slips [] Given 1 [] in
                let applied = restricted_step (archive_schema b) Enforced db now edit
                (only_restricted_slips b (taken_by db edit))
                (subst (λ rs. Writes (archive_schema b) Enforced db (edit_of db slips (ids_of rs) Given 1 rs) (Ok now))
                empty did.3) in
                let same = others_of b db now edit applied in
                record {
                  meta = same 0 (omega arith) (omega arith) ∙ was.meta;
                  batches = keeps_on _ _ _ (same 1 (omega arith) (omega arith)) was.batches;
                  records = keeps_on _ _ _ (same 2 (omega arith) (omega arith)) was.records;
                  receipts = keeps_on _ _ _ (same 4 (omega arith) (omega arith)) was.receipts;
                  slips = subst (λ xs. Keeps slip_values key xs (now 5)) (sym (none_changed key n g rows.slips none))
                      (keeps_on _ _ (now 5) applied.rows was.slips);
                  sides = sides_on b rows db now edit applied (omega arith) (omega arith) fits was.sides;
                  own = own_on b rows db now edit applied (omega arith) (omega arith) fits was.own;
                  pasts = pasts_on b rows db now edit applied (omega arith) fits was.pasts;
                }
            | inr (x, one, here) ↦
                let single : read ≡ shown x ∷ [] = one_permutation _ read
                (subst (λ xs. IsPermutation (map shown xs) read) one (found rows was)) in
                let edit = edit_of db slips (pos x.no ∷ []) Given 1 (shown x ∷ []) in
                let applied = one_step (archive_schema b) Enforced db now edit
                (no_work b db edit refl refl)
                (subst (λ rs. Writes (archive_schema b) Enforced db (edit_of db slips (ids_of rs) Given 1 rs) (Ok now))
                single did.3) in
                let same = others_of b db now edit applied in
                let row : edited db edit ≡ put_row (slip_values (g x)) (without_all (db 5) (pos x.no ∷ [])) = rw (
                  cast_null,
                  cast_int (pos x.no),
                  cast_int (pos x.keep),
                  cast_int (pos x.gone),
                  cast_int (pos 1),
                ) refl in
                let away = ap (λ k. put_row (slip_values (g x)) (without_all (db 5) (pos k ∷ []))) here in
                record {
                  meta = same 0 (omega arith) (omega arith) ∙ was.meta;
                  batches = keeps_on _ _ _ (same 1 (omega arith) (omega arith)) was.batches;
                  records = keeps_on _ _ _ (same 2 (omega arith) (omega arith)) was.records;
                  receipts = keeps_on _ _ _ (same 4 (omega arith) (omega arith)) was.receipts;
                  slips = keeps_on _ _ (now 5) (applied.rows ∙ row ∙ away)
                      (keeps_changed slip_values key (λ _. refl) n g x rows.slips (db 5) one here here was.slips);
                  sides = sides_on b rows db now edit applied (omega arith) (omega arith) fits was.sides;
                  own = own_on b rows db now edit applied (omega arith) (omega arith) fits was.own;
                  pasts = pasts_on b rows db now edit applied (omega arith) fits was.pasts;
                }
          ]),
      λ rows was. elim (at_key key n rows.slips was.slips.rise) [
        | inl none ↦
            let empty : read ≡ [] = permutation_none read
            (subst (λ xs. IsPermutation (map shown xs) read) none (found rows was)) in
            counted ∙ ap (λ rs. length (edit_of db slips (ids_of rs) Given 1 rs).news) empty ∙ sym (ap length none)
        | inr (x, one, here) ↦
            let single : read ≡ shown x ∷ [] = one_permutation _ read
            (subst (λ xs. IsPermutation (map shown xs) read) one (found rows was)) in
            counted ∙ ap (λ rs. length (edit_of db slips (ids_of rs) Given 1 rs).news) single ∙ sym (ap length one)
      ],
    )

-- a row of `record` that is changed where it is there, and put where it is not, is put
pub changed_or_put : (n : ℕ) (kind : List ℕ) (batch : ℕ) (rows : Rows) (old : Trees) → Holds rows old
    → ((length (filter (λ (x : RecordRow). x.no == n) rows.records) ≡ 0) × (record_at n kind batch rows ≡ rows))
    ⊎ ((length (filter (λ (x : RecordRow). x.no == n) rows.records) ≡ 1)
    × (record_at n kind batch rows ≡ with_record_row n kind batch rows))
changed_or_put n kind batch rows old was =
    let key = (λ (x : RecordRow). x.no) in
    let g = (λ (r : RecordRow). record r { kind = kind; batch = batch }) in
    elim (at_key key n rows.records was.records.rise) [
      | inl none ↦ inl (
        ap length none,
        ap (λ rs. record rows { records = rs })
            (none_changed key n g rows.records none),
      )
      | inr (x, one, here) ↦
          let item : RecordRow = record { no = n; kind = kind; batch = batch } in
          let made : g x ≡ item = ap (λ k. record { no = k; kind = kind; batch = batch }) here in
          inr (
            ap length one,
            ap (λ rs. record rows { records = rs })
                (sym (put_over key n g item x rows.records was.records.rise one refl made)),
          )
    ]

-- no row was counted, so none was there
pub put_new : (n : ℕ) (kind : List ℕ) (batch count : ℕ) (rows : Rows) (old : Trees) → Holds rows old
    → count ≡ length (filter (λ (x : RecordRow). x.no == n) rows.records) → count ≡ 0
    → record_at n kind batch rows ≡ rows
put_new n kind batch count rows old was counted none =
    elim (changed_or_put n kind batch rows old was) [
      | inl absent ↦ absent.1
      | inr there ↦ absurd (let one : 0 ≡ 1 = sym none ∙ counted ∙ there.0 in cc)
    ]

-- a row was counted, so it was there
pub put_again : (n : ℕ) (kind : List ℕ) (batch count : ℕ) (rows : Rows) (old : Trees) → Holds rows old
    → count ≡ length (filter (λ (x : RecordRow). x.no == n) rows.records) → count ≢ 0
    → record_at n kind batch rows ≡ with_record_row n kind batch rows
put_again n kind batch count rows old was counted some =
    elim (changed_or_put n kind batch rows old was) [
      | inl absent ↦ absurd (some (counted ∙ absent.0))
      | inr there ↦ there.1
    ]
