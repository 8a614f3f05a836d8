-- The calls on the import that is open, as calls of a session.
use Rattle.std.proofs.Common.{
  ◌≡◌,
  ◌≢◌,
  inl,
  inr,
  ℕ,
  Bool,
  true,
  false,
  List,
  [],
  ◌∷◌,
  drop,
  Option,
  None,
  Some,
  Result,
  Ok,
  Err,
  IfOk,
  IfErr,
  OnOk,
  OnErr,
  refl,
  sym,
  ap,
  ◌∙◌,
  subst,
  true≢false,
}
use Rattle.std.specs.Prelude.{◌↔◌, IfNone, IfSome, is_some}
use Rattle.sqlite.specs.Held.{Held, state}
use Rattle.sqlite.specs.State.{HasCleanDisk, State}
use Rattle.sqlite_trees.specs.declared.store.Store.{Ghosts}
use Rattle.record_text.specs.declared.refusal.Refusal.{Refusal}
use Rattle.record_text.specs.declared.refusal.RefusalKind.{RefusalKind}
use Rattle.record_text.specs.declared.refusal.RefusalKind.TheVariants.{NoImport, NotAllStaged, OutOfMemory, Storage}
use Rattle.receipts.specs.declared.answer.Answer.{Answer}
use Rattle.archive_state.specs.Applied.{applied}
use Rattle.archive_state.specs.Content.{Content}
use Rattle.archive_core.specs.Machine.{Does}
use Rattle.archive_core.specs.Steps.{refused_at}
use Rattle.archive_core.specs.declared.request.Request.{Request}
use Rattle.staging.specs.Opened.{Import}
use Rattle.staged_rows.specs.Staging.{StagedRow}
use Rattle.store_tables.specs.Calls.{LeavesOnly, Settled}
use Rattle.store_tables.specs.Rows.{Rows}
use Rattle.store.specs.Archives.{Keeps, LeavesArchive}
use Rattle.store.specs.Calls.{LeavesDoneOrNot, OnArchive}
use Rattle.store.specs.Histories.{has_broken, is_storage, loses}
use Rattle.store.specs.Importing.{Has, HasAnswered, HasBegun, HasImport, HasPublished, StaysOn}
use Rattle.store.specs.Lives.{IsCall}
use Rattle.store.specs.Standing.{Standing, asked_by, begun_as, begun_told, heard, published_by, standing}
use Rattle.store.proofs.Called.{ready_call, staged_call, still_call}
use Rattle.store.proofs.Committed.{may_be_before, may_be_done, ok_performs, refusal_performs, unless_failed}
use Rattle.store.proofs.Steps.{acknowledged_before, not_done}

-- ---- what the beginning tells
module _ (old new : State) (r : Request) where
  pub told_begun : (b : Result (Answer × Option Import) Refusal)
      → IfOk b (λ p. IfSome p.1 (λ i. OnArchive old (λ society c rows. HasBegun society c rows r p.0 i new)))
      → IfOk (begun_told b).0 (λ o. IfNone o (OnArchive old (λ society c rows.
      IfSome (begun_told b).1 (λ i. HasBegun society c rows r i.changes.answer i new))))
  told_begun (Ok (a, None)) h = tt
  told_begun (Ok (a, Some i)) h = λ society c rows was keeps.
      let begun = h society c rows was keeps in
      (begun.0, begun.1, begun.2, refl)
  told_begun (Err e) h = tt

  pub told_kept : (b : Result (Answer × Option Import) Refusal)
      → IfOk b (λ p. p.1 ≡ None → OnArchive old (λ society c rows. HasAnswered c rows r p.0 new))
      → IfOk (begun_told b).0 (λ o. IfSome o (λ a. OnArchive old (λ society c rows. HasAnswered c rows r a new)))
  told_kept (Ok (a, None)) h = h refl
  told_kept (Ok (a, Some i)) h = tt
  told_kept (Err e) h = tt

pub told_refused : (P : Refusal → Type 0) (b : Result (Answer × Option Import) Refusal) → IfErr b P
    → IfErr (begun_told b).0 P
told_refused P (Ok (a, None)) h = tt
told_refused P (Ok (a, Some i)) h = tt
told_refused P (Err e) h = h

-- ---- a stage on the import that is open
module _ (old new : State) (o : Option Import) (i j : Import) (is : o ≡ Some i) where
  pub open_staged : (res : Result Bool RefusalKind) → OnOk res (j ≡ record i { left = drop 256 i.left })
      → OnOk res (StaysOn i old j new)
      → OnOk res (IfSome o (λ k. StaysOn k old (record k { left = drop 256 k.left }) new))
  open_staged (Ok more) left staged =
      subst (λ m. IfSome m (λ k. StaysOn k old (record k { left = drop 256 k.left }) new)) (sym is)
      (subst (λ k. StaysOn i old k new) left staged)
  open_staged (Err kind) left staged = tt

  pub open_stays : (res : Result Bool RefusalKind) → IfErr res (λ kind. is_storage kind ≡ false
      → (kind ≡ OutOfMemory) × (j ≡ i) × StaysOn i old j new)
      → IfErr res (λ kind. is_storage kind ≡ false
      → IfSome o (λ k. (kind ≡ OutOfMemory) × (Some j ≡ o) × StaysOn k old k new))
  open_stays (Ok more) stays = tt
  open_stays (Err kind) stays = λ sure.
      let did = stays sure in
      let same : Some j ≡ o = ap Some did.1 ∙ sym is in
      subst (λ m. IfSome m (λ k. (kind ≡ OutOfMemory) × (Some j ≡ o) × StaysOn k old k new)) (sym is)
      (did.0, same, subst (λ k. StaysOn i old k new) did.1 did.2)

-- ---- calls
module _ {S : Type 0} (g : Ghosts S) (old new : Held S) (r : Request)
    (only : (rows : Rows) → Settled (state g new) rows → LeavesOnly (state g new) rows) where
  -- an import is begun
  begun_call_of : (b : Result (Answer × Option Import) Refusal) (was : Standing) → was.is_lost ≡ false
      → was.import ≡ None
      → (HasCleanDisk (state g new) → IfOk b (λ p. IfSome p.1 (λ i. OnArchive (state g old)
      (λ society c rows. HasBegun society c rows r p.0 i (state g new)))))
      → (HasCleanDisk (state g new) → IfOk b (λ p. p.1 ≡ None
      → OnArchive (state g old) (λ society c rows. HasAnswered c rows r p.0 (state g new))))
      → (HasCleanDisk (state g new) → IfErr b (λ e. is_storage e.kind ≡ false → OnArchive (state g old)
      (λ society c rows. Does c r (Err e) c × Settled (state g new) rows)))
      → (HasCleanDisk (state g new) → OnArchive (state g old)
      (λ society c rows. LeavesArchive (state g new) society (λ found. found ≡ c)))
      → (HasCleanDisk (state g new) → HasCleanDisk (state g old))
      → IsCall g old was (begun_as r (begun_told b).0) new
      (standing r (loses (begun_told b).0) (begun_told b).1)
  begun_call_of (Ok (a, None)) was kept none begun answered refused crash clean =
      ready_call g old new was (standing r false None) ((r, Ok a) ∷ []) kept none refl (λ _. refl)
      (λ now. ok_performs (state g old) (state g new) r a
      (λ society c rows settled keeps.
      acknowledged_before (state g new) society c rows r a keeps (answered now refl society c rows settled keeps))
      only (clean now))
  begun_call_of (Ok (a, Some i)) was kept none begun answered refused crash clean =
      staged_call g old new was (standing r false (Some i)) kept
      (λ now _ society c has.
      let first = subst (λ o. Has society c o (state g old)) none has in
      (begun now society c first.0 first.1 first.2).0)
      (λ now society c has.
      let first = subst (λ o. Has society c o (state g old)) none has in
      crash now society c first.0 first.1 first.2)
      clean
  begun_call_of (Err e) was kept none begun answered refused crash clean =
      ready_call g old new was (standing r (is_storage e.kind) None) ((r, Err e) ∷ []) kept none refl
      (λ sure. unless_failed (is_storage e.kind) r sure)
      (λ now. refusal_performs (state g old) (state g new) r e
      (λ sure society c rows settled keeps.
      let did = refused now sure society c rows settled keeps in
      (did.0, did.1, only rows did.1))
      (λ society c rows settled keeps.
      not_done (state g new) society c r (crash now society c rows settled keeps))
      (clean now))

  pub begun_call : (b : Result (Answer × Option Import) Refusal) (lost : Bool) (o : Option Import) → lost ≡ false
      → o ≡ None
      → (HasCleanDisk (state g new) → IfOk b (λ p. IfSome p.1 (λ i. OnArchive (state g old)
      (λ society c rows. HasBegun society c rows r p.0 i (state g new)))))
      → (HasCleanDisk (state g new) → IfOk b (λ p. p.1 ≡ None
      → OnArchive (state g old) (λ society c rows. HasAnswered c rows r p.0 (state g new))))
      → (HasCleanDisk (state g new) → IfErr b (λ e. is_storage e.kind ≡ false → OnArchive (state g old)
      (λ society c rows. Does c r (Err e) c × Settled (state g new) rows)))
      → (HasCleanDisk (state g new) → OnArchive (state g old)
      (λ society c rows. LeavesArchive (state g new) society (λ found. found ≡ c)))
      → (HasCleanDisk (state g new) → HasCleanDisk (state g old))
      → IsCall g old (standing r lost o) (heard lost (begun_as r (begun_told b).0)) new
      (standing r (loses (begun_told b).0) (begun_told b).1)
  begun_call b lost o kept none begun answered refused crash clean =
      subst (λ calls. IsCall g old (standing r lost o) calls new
      (standing r (loses (begun_told b).0) (begun_told b).1))
      (sym (ap (λ l. heard l (begun_as r (begun_told b).0)) kept))
      (begun_call_of b (standing r lost o) kept (ap (asked_by r) none) begun answered refused crash clean)

  -- rows of it are written
  pub stage_call : (res : Result Bool RefusalKind) (lost is_lost : Bool) (o n : Option Import) → lost ≡ false
      → is_lost ≡ has_broken res
      → (HasCleanDisk (state g new) → OnOk res (IfSome o (λ i.
      StaysOn i (state g old) (record i { left = drop 256 i.left }) (state g new))))
      → IfOk res (λ more. IfSome o (λ i. (n ≡ Some (record i { left = drop 256 i.left }))
      × ((more ≡ false) ↔ (drop 256 i.left ≡ []))))
      → (HasCleanDisk (state g new) → IfErr res (λ kind. is_storage kind ≡ false → IfSome o (λ i.
      (kind ≡ OutOfMemory) × (n ≡ o) × StaysOn i (state g old) i (state g new))))
      → (HasCleanDisk (state g new) → IfSome o (λ i. (society : List ℕ) (c : Content) (q : Request)
      → HasImport society c q i (state g old) → LeavesArchive (state g new) society (λ found. found ≡ c)))
      → (o ≡ None → (res ≡ Err NoImport) × (new ≡ old) × (n ≡ None))
      → (HasCleanDisk (state g new) → HasCleanDisk (state g old))
      → IsCall g old (standing r lost o) [] new (standing r is_lost n)
  stage_call res lost is_lost None n kept is staged left stays crash none clean =
      let nothing = none refl in
      still_call g old new (standing r lost None) (standing r is_lost n) [] refl nothing.1
      (ap (λ (l : Bool). standing r l n) (is ∙ ap has_broken nothing.0 ∙ sym kept)
      ∙ ap (standing r lost) nothing.2)
  stage_call (Ok more) lost is_lost (Some i) n kept is staged left stays crash none clean =
      staged_call g old new (standing r lost (Some i)) (standing r is_lost n) kept
      (λ now _ society c has. subst (λ (m : Option Import). Has society c (asked_by r m) (state g new)) (sym left.0)
      (staged now society c r has).0)
      (λ now society c has. crash now society c r has) clean
  stage_call (Err kind) lost is_lost (Some i) n kept is staged left stays crash none clean =
      staged_call g old new (standing r lost (Some i)) (standing r is_lost n) kept
      (λ now sure society c has.
      let same = stays now (sym is ∙ sure) in
      subst (λ (m : Option Import). Has society c (asked_by r m) (state g new)) (sym same.1)
      (same.2 society c r has).0)
      (λ now society c has. crash now society c r has) clean

  -- it is given up
  pub abandon_call : (res : Result (Unit {0}) RefusalKind) (lost is_lost : Bool) (o n : Option Import) → lost ≡ false
      → is_lost ≡ has_broken res
      → (HasCleanDisk (state g new) → OnOk res (IfSome o (λ i. (society : List ℕ) (c : Content) (q : Request)
      → (has : HasImport society c q i (state g old))
      → Settled (state g new) has.2.before × Keeps society c has.2.before)))
      → OnOk res (n ≡ None)
      → (is_some o ≡ true → IfErr res (λ kind. kind ≡ Storage))
      → (HasCleanDisk (state g new) → IfSome o (λ i. (society : List ℕ) (c : Content) (q : Request)
      → HasImport society c q i (state g old) → LeavesArchive (state g new) society (λ found. found ≡ c)))
      → (o ≡ None → (res ≡ Err NoImport) × (new ≡ old) × (n ≡ None))
      → (HasCleanDisk (state g new) → HasCleanDisk (state g old))
      → IsCall g old (standing r lost o) [] new (standing r is_lost n)
  abandon_call res lost is_lost None n kept is gone closed told crash none clean =
      let nothing = none refl in
      still_call g old new (standing r lost None) (standing r is_lost n) [] refl nothing.1
      (ap (λ (l : Bool). standing r l n) (is ∙ ap has_broken nothing.0 ∙ sym kept)
      ∙ ap (standing r lost) nothing.2)
  abandon_call (Ok done) lost is_lost (Some i) n kept is gone closed told crash none clean =
      staged_call g old new (standing r lost (Some i)) (standing r is_lost n) kept
      (λ now _ society c has. subst (λ (m : Option Import). Has society c (asked_by r m) (state g new)) (sym closed)
      (has.2.before, (gone now society c r has).0, (gone now society c r has).1))
      (λ now society c has. crash now society c r has) clean
  abandon_call (Err kind) lost is_lost (Some i) n kept is gone closed told crash none clean =
      staged_call g old new (standing r lost (Some i)) (standing r is_lost n) kept
      (λ now sure society c has.
      absurd (true≢false (ap is_storage (sym (told refl)) ∙ sym is ∙ sure)))
      (λ now society c has. crash now society c r has) clean

no_rows : (left : List StagedRow) (first : StagedRow) (more : List StagedRow) → left ≡ first ∷ more → left ≢ []
no_rows left first more is e = absurd cc

-- ---- it is published
module _ {S : Type 0} (g : Ghosts S) (old new : Held S) (r : Request)
    (only : (rows : Rows) → Settled (state g new) rows → LeavesOnly (state g new) rows) (lost is_lost : Bool)
    (i : Import) (n : Option Import) (kept : lost ≡ false)
    (crash : HasCleanDisk (state g new) → i.left ≡ [] → (society : List ℕ) (c : Content) (q : Request)
    → HasImport society c q i (state g old) → LeavesDoneOrNot (state g new) society c q)
    (clean : HasCleanDisk (state g new) → HasCleanDisk (state g old)) where
  published_whole : (a : Answer) → is_lost ≡ false → n ≡ None
      → (HasCleanDisk (state g new) → (a ≡ i.changes.answer) × ((society : List ℕ) (c : Content) (q : Request)
      → (has : HasImport society c q i (state g old))
      → HasPublished society c has.2.before q i (state g new)))
      → IsCall g old (standing r lost (Some i)) ((r, Ok a) ∷ []) new (standing r is_lost n)
  published_whole a sure closed done = inl (record {
    kept = kept;
    certain = λ _. refl;
    done = λ now _ society c has.
        let did = (done now).1 society c r has in
        let does = subst (λ b. Does c r (Ok b) (applied c i.changes)) (sym (done now).0) did.0 in (
          applied c i.changes,
          (applied c i.changes, does, refl),
          subst (λ (m : Option Import). Has society (applied c i.changes) (asked_by r m) (state g new)) (sym closed)
              (did.1.0, did.1.1, did.1.2),
        );
    crash = λ now society c has t l.
        let did = (done now).1 society c r has in
        let does = subst (λ b. Does c r (Ok b) (applied c i.changes)) (sym (done now).0) did.0 in
        (applied c i.changes, (applied c i.changes, does, refl), (did.1.0, only did.1.0 did.1.1 t l, did.1.2));
    clean = clean;
  })

  published_not : is_lost ≡ true → i.left ≡ []
      → IsCall g old (standing r lost (Some i)) ((r, Err (refused_at None Storage)) ∷ []) new (standing r is_lost n)
  published_not gone none = inl (record {
    kept = kept;
    certain = λ sure. absurd (true≢false (sym gone ∙ sure));
    done = λ now sure. absurd (true≢false (sym gone ∙ sure));
    crash = λ now society c has t l. elim (crash now none society c r has t l) [
      | inl before ↦ (c, may_be_before c r (Err (refused_at None Storage)) refl, before)
      | inr did ↦ (did.0, may_be_done c did.0 r (Err (refused_at None Storage)) refl did.1, did.2)
    ];
    clean = clean;
  })

  published_staged : (res : Result Answer RefusalKind) → is_lost ≡ has_broken res → i.left ≡ []
      → (HasCleanDisk (state g new) → IfOk res (λ a. (a ≡ i.changes.answer) × ((society : List ℕ) (c : Content)
      (q : Request) → (has : HasImport society c q i (state g old))
      → HasPublished society c has.2.before q i (state g new))))
      → OnOk res (n ≡ None) → IfErr res (λ kind. kind ≡ Storage)
      → IsCall g old (standing r lost (Some i)) (published_by r res) new (standing r is_lost n)
  published_staged (Ok a) is none done closed told = published_whole a is closed done
  published_staged (Err kind) is none done closed told =
      subst (λ k. IsCall g old (standing r lost (Some i)) (published_by r (Err k)) new (standing r is_lost n))
      (sym told) (published_not (is ∙ ap is_storage told) none)

  published_of : (res : Result Answer RefusalKind) (left : List StagedRow) → i.left ≡ left → is_lost ≡ has_broken res
      → (HasCleanDisk (state g new) → IfOk res (λ a. (a ≡ i.changes.answer) × ((society : List ℕ) (c : Content)
      (q : Request) → (has : HasImport society c q i (state g old))
      → HasPublished society c has.2.before q i (state g new))))
      → OnOk res (n ≡ None) → OnErr res (n ≡ Some i)
      → (i.left ≢ [] → (res ≡ Err NotAllStaged) × (new ≡ old))
      → (i.left ≡ [] → IfErr res (λ kind. kind ≡ Storage))
      → IsCall g old (standing r lost (Some i)) (published_by r res) new (standing r is_lost n)
  published_of res [] none is done closed stays unfinished told =
      published_staged res is none done closed (told none)
  published_of res (first ∷ more) rows is done closed stays unfinished told =
      let un = unfinished (no_rows i.left first more rows) in
      still_call g old new (standing r lost (Some i)) (standing r is_lost n) (published_by r res)
      (ap (published_by r) un.0) un.1
      (ap (λ (l : Bool). standing r l n) (is ∙ ap has_broken un.0 ∙ sym kept)
      ∙ ap (standing r lost) (subst (λ (q : Result Answer RefusalKind). OnErr q (n ≡ Some i)) un.0 stays))

pub publish_call : {S : Type 0} (g : Ghosts S) (old new : Held S) (r : Request)
    → ((rows : Rows) → Settled (state g new) rows → LeavesOnly (state g new) rows)
    → (res : Result Answer RefusalKind) (lost is_lost : Bool) (o n : Option Import) → lost ≡ false
    → is_lost ≡ has_broken res
    → (HasCleanDisk (state g new) → IfOk res (λ a. IfSome o (λ i. (a ≡ i.changes.answer) × ((society : List ℕ)
    (c : Content) (q : Request) → (has : HasImport society c q i (state g old))
    → HasPublished society c has.2.before q i (state g new)))))
    → (HasCleanDisk (state g new) → IfSome o (λ i. i.left ≡ [] → (society : List ℕ) (c : Content) (q : Request)
    → HasImport society c q i (state g old) → LeavesDoneOrNot (state g new) society c q))
    → OnOk res (n ≡ None) → OnErr res (n ≡ o)
    → IfSome o (λ i. i.left ≢ [] → (res ≡ Err NotAllStaged) × (new ≡ old))
    → IfSome o (λ i. i.left ≡ [] → IfErr res (λ kind. kind ≡ Storage))
    → (o ≡ None → (res ≡ Err NoImport) × (new ≡ old) × (n ≡ None))
    → (HasCleanDisk (state g new) → HasCleanDisk (state g old))
    → IsCall g old (standing r lost o) (published_by r res) new (standing r is_lost n)
publish_call g old new r only res lost is_lost None n kept is done crash closed stays unfinished told none clean =
    let nothing = none refl in
    still_call g old new (standing r lost None) (standing r is_lost n) (published_by r res)
    (ap (published_by r) nothing.0) nothing.1
    (ap (λ (l : Bool). standing r l n) (is ∙ ap has_broken nothing.0 ∙ sym kept) ∙ ap (standing r lost) nothing.2)
publish_call g old new r only res lost is_lost (Some i) n kept is done crash closed stays unfinished told none clean =
    published_of g old new r only lost is_lost i n kept crash clean res i.left refl is done closed stays unfinished told
