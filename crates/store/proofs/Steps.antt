-- What the steps of an import make of an archive, as one request.
use Rattle.std.proofs.Common.{
  ◌≡◌,
  ◌≢◌,
  ◌<◌,
  ◌⊎◌,
  inl,
  inr,
  ℕ,
  List,
  [],
  ◌∷◌,
  length,
  drop,
  Result,
  Ok,
  Err,
  Option,
  None,
  Some,
  arith,
  refl,
  sym,
  ap,
  ◌∙◌,
  subst,
  false,
  true≢false,
}
use Rattle.std.proofs.lemmas.List.{length-drop}
use Rattle.std.specs.Prelude.{IfErr, IfSome}
use Rattle.std.specs.FinMap.{get}
use Rattle.sqlite.specs.Held.{Held, state}
use Rattle.sqlite.specs.State.{State}
use Rattle.sqlite_trees.specs.declared.store.Store.{Ghosts}
use Rattle.record_text.specs.declared.refusal.RefusalKind.{RefusalKind}
use Rattle.record_text.specs.declared.refusal.RefusalKind.TheVariants.{OutOfMemory, Storage}
use Rattle.archive_state.specs.Applied.{applied}
use Rattle.archive_state.specs.Content.{Content}
use Rattle.archive_core.specs.Machine.{Does, import_of}
use Rattle.commands.specs.declared.command.Command.{Command}
use Rattle.commands.specs.declared.command.Command.TheVariants as command
use Rattle.gedcom_tree.specs.Forest.{Item}
use Rattle.archive_core.specs.declared.request.Request.{Request}
use Rattle.receipts.specs.declared.answer.Answer.{Answer}
use Rattle.store_tables.specs.Calls.{LeavesOnly, Settled}
use Rattle.store_tables.specs.Rows.{Rows}
use Rattle.staged_rows.specs.Staging.{StagedRow}
use Rattle.staging.specs.Opened.{Import}
use Rattle.store.specs.Archives.{IsArchive, Keeps, LeavesArchive}
use Rattle.store.specs.Calls.{AcknowledgedBy, Acknowledges, LeavesDoneOrNot, OnArchive}
use Rattle.store.specs.Histories.{is_storage}
use Rattle.store.specs.Importing.{HasAnswered, HasBegun, HasImport, HasPublished, StaysOn}
use Rattle.store.proofs.Overwritten.{adds_again}

-- ---- one stage after the other
pub stays_then : (i j k : Import) (old mid new : State) → StaysOn i old j mid → StaysOn j mid k new
    → StaysOn i old k new
stays_then i j k old mid new first next society c r has =
    let one = first society c r has in
    let two = next society c r one.0 in
    (two.0, two.1 ∙ one.1)

pub goes_on : (first now next : Import) (left : List StagedRow) → now ≡ record first { left = now.left }
    → next ≡ record now { left = left } → next ≡ record first { left = next.left }
goes_on first now next left was is =
    is ∙ ap (λ (i : Import). record i { left = left }) was
    ∙ ap (λ (i : Import). record first { left = i.left }) (sym is)

pub some_long : (rows : List StagedRow) → rows ≢ [] → 0 < length rows
some_long [] some = absurd (some refl)
some_long (row ∷ rows) some = omega arith

pub fewer_left : (now next : Import) → now.left ≢ [] → next ≡ record now { left = drop 256 now.left }
    → length next.left < length now.left
fewer_left now next some is =
    let same : length next.left ≡ length (drop 256 now.left) = ap (λ (i : Import). length i.left) is in
    omega (arith, same, length-drop 256 now.left, some_long now.left some)

pub none_left : (first now : Import) → now ≡ record first { left = now.left } → now.left ≡ []
    → now ≡ record first { left = [] }
none_left first now was none = was ∙ ap (λ (rows : List StagedRow). record first { left = rows }) none

pub none_left_of : (first now : Import) → now ≡ record first { left = [] } → now.left ≡ []
none_left_of first now is = ap (λ (i : Import). i.left) is

-- ---- a failure of the database
pub never_storage : {A : Type 0} (kind : RefusalKind) → kind ≡ Storage → is_storage kind ≡ false → A
never_storage kind lost sure = absurd (true≢false (subst (λ k. is_storage k ≡ false) lost sure))

pub only_storage : {A : Type 0} (P : RefusalKind → Type 0) (result : Result A RefusalKind)
    → IfErr result (λ kind. kind ≡ Storage) → IfErr result (λ kind. is_storage kind ≡ false → P kind)
only_storage P (Ok a) refused = tt
only_storage P (Err kind) refused = λ sure. never_storage kind refused sure

-- ---- what a stop leaves
-- before the last step, the archive as it was
pub not_done : (s : State) (society : List ℕ) (c : Content) (r : Request)
    → LeavesArchive s society (λ found. found ≡ c) → LeavesDoneOrNot s society c r
not_done s society c r leaves t l =
    let left = leaves t l in
    inl (subst (λ d. IsArchive society d t) left.1 left.2)

-- in the last step, it or what the import makes of it
pub done_or_not_yet : (s : State) (society : List ℕ) (c after : Content) (r : Request) (a : Answer)
    → Does c r (Ok a) after → LeavesArchive s society (λ found. (found ≡ c) ⊎ (found ≡ after))
    → LeavesDoneOrNot s society c r
done_or_not_yet s society c after r a did leaves t l =
    let left = leaves t l in
    elim left.1 [
      | inl same ↦ inl (subst (λ d. IsArchive society d t) same left.2)
      | inr made ↦ inr (after, (a, did), subst (λ d. IsArchive society d t) made left.2)
    ]

-- ---- what is acknowledged
-- all rows are written, and published
pub acknowledged_whole : (s : State) (society : List ℕ) (c : Content) (first before : Rows) (r : Request)
    (i staged : Import) → before ≡ first → staged ≡ record i { left = [] } → HasPublished society c before r staged s
    → AcknowledgedBy society c first r i.changes.answer s
acknowledged_whole s society c first before r i staged same whole has =
    subst (λ rows. AcknowledgedBy society c rows r i.changes.answer s) same
    (subst (λ (j : Import). AcknowledgedBy society c before r j.changes.answer s) whole
    (applied c staged.changes, has.1.0, has.0, has.1.1, has.1.2, has.1.3, has.1.4, has.1.5))

-- from the beginning of an import on
pub acknowledged_begun : (mid s : State) (society : List ℕ) (c : Content) (rows : Rows) (r : Request) (a : Answer)
    (i : Import) → (begun : HasBegun society c rows r a i mid)
    → AcknowledgedBy society c begun.0.2.before r i.changes.answer s → AcknowledgedBy society c rows r a s
acknowledged_begun mid s society c rows r a i begun did =
    subst (λ b. AcknowledgedBy society c rows r b s) begun.3
    (subst (λ before. AcknowledgedBy society c before r i.changes.answer s) begun.1 did)

-- an answer was kept
pub acknowledged_before : (s : State) (society : List ℕ) (c : Content) (rows : Rows) (r : Request) (a : Answer)
    → Keeps society c rows → HasAnswered c rows r a s → AcknowledgedBy society c rows r a s
acknowledged_before s society c rows r a keeps has =
    (c, rows, has.0, has.1, keeps, (λ m same. (refl, refl, refl)), (λ closed. closed), adds_again c r rows)

-- it is just begun, and its answer is kept nowhere
pub none_kept : (society : List ℕ) (c : Content) (before : Rows) (r : Request) (a : Answer) (i : Import) (s : State)
    → HasBegun society c before r a i s → get c.receipts r.token ≡ None
none_kept society c before r a i s begun = begun.0.2.accepted.new

-- ---- an import that may be begun: from what was before it to what it leaves
module _ {S : Type 0} (g : Ghosts S) (old : State) (mid new : Held S) (r : Request) (a : Answer) where
  pub all_done : (o : Option Import)
      → IfSome o (λ i. OnArchive old (λ society c rows. HasBegun society c rows r a i (state g mid)))
      → (o ≡ None → OnArchive old (λ society c rows. HasAnswered c rows r a (state g mid)))
      → (o ≡ None → new ≡ mid)
      → IfSome o (λ i. (society : List ℕ) (c : Content) (q : Request) → (has : HasImport society c q i (state g mid))
      → AcknowledgedBy society c has.2.before q i.changes.answer (state g new))
      → Acknowledges old r a (state g new)
  all_done None begun answered same done society c rows was keeps =
      subst (λ h. AcknowledgedBy society c rows r a (state g h)) (sym (same refl))
      (acknowledged_before (state g mid) society c rows r a keeps (answered refl society c rows was keeps))
  all_done (Some i) begun answered same done society c rows was keeps =
      let has = begun society c rows was keeps in
      acknowledged_begun (state g mid) (state g new) society c rows r a i has (done society c r has.0)

  pub none_anew : (o : Option Import)
      → IfSome o (λ i. OnArchive old (λ society c rows. HasBegun society c rows r a i (state g mid)))
      → OnArchive old (λ society c rows. get c.receipts r.token ≢ None → LeavesOnly (state g mid) rows)
      → (o ≡ None → new ≡ mid)
      → OnArchive old (λ society c rows. get c.receipts r.token ≢ None → LeavesOnly (state g new) rows)
  none_anew None begun again same society c rows was keeps kept =
      subst (λ h. LeavesOnly (state g h) rows) (sym (same refl)) (again society c rows was keeps kept)
  none_anew (Some i) begun again same society c rows was keeps kept =
      absurd (kept (none_kept society c rows r a i (state g mid) (begun society c rows was keeps)))

  pub all_undone : (kind : RefusalKind) (o : Option Import) → o ≢ None
      → IfSome o (λ i. OnArchive old (λ society c rows. HasBegun society c rows r a i (state g mid)))
      → IfSome o (λ i. (kind ≡ OutOfMemory) × ((society : List ℕ) (c : Content) (q : Request)
      → (has : HasImport society c q i (state g mid)) → Settled (state g new) has.2.before))
      → OnArchive old (λ society c rows. (kind ≡ OutOfMemory) × Settled (state g new) rows)
  all_undone kind None some begun undone = absurd (some refl)
  all_undone kind (Some i) some begun undone = λ society c rows was keeps.
      let has = begun society c rows was keeps in
      (undone.0, subst (Settled (state g new)) has.1 (undone.1 society c r has.0))

  pub done_or_not_all : (o : Option Import) → o ≢ None
      → IfSome o (λ i. OnArchive old (λ society c rows. HasBegun society c rows r a i (state g mid)))
      → IfSome o (λ i. (society : List ℕ) (c : Content) (q : Request) → HasImport society c q i (state g mid)
      → LeavesDoneOrNot (state g new) society c q)
      → OnArchive old (λ society c rows. LeavesDoneOrNot (state g new) society c r)
  done_or_not_all None some begun crash = absurd (some refl)
  done_or_not_all (Some i) some begun crash = λ society c rows was keeps.
      crash society c r (begun society c rows was keeps).0

-- ---- a request to import
pub request_is : (r : Request) (forest : List Item) → r.command ≡ command.Import forest → r.digest ≡ None
    → import_of r.token forest ≡ r
request_is r forest is none =
    let put : Command → Request = λ k. record { token = r.token; command = k; digest = r.digest } in
    let own : Option (List ℕ) → Request =
    λ d. record { token = r.token; command = command.Import forest; digest = d } in
    sym (ap put is ∙ ap own none)
