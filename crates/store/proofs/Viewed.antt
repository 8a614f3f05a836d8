-- An archive as a view, from what the looks at its rows say.
use Rattle.std.proofs.Common.{
  ◌≡◌,
  ◌⊎◌,
  ◌||◌,
  ◌<◌,
  ◌-◌,
  ◌^◌,
  arith,
  inl,
  inr,
  ℕ,
  Bool,
  List,
  true,
  false,
  Ok,
  Err,
  refl,
  sym,
  ap,
  ◌∙◌,
  subst,
  true≢false,
}
use Rattle.std.specs.Prelude.{◌≢◌}
use Rattle.sqlite.specs.State.{HasCleanDisk, State}
use Rattle.sqlite.specs.Tree.{Trees}
use Rattle.record_text.specs.declared.refusal.Refusal.{Refusal}
use Rattle.record_text.specs.declared.refusal.RefusalKind.{RefusalKind}
use Rattle.record_text.specs.declared.refusal.RefusalKind.TheVariants.{OutOfMemory, BadStored, Storage}
use Rattle.archive_state.specs.Content.{Content}
use Rattle.archive_state.specs.Looks.{is_failure, is_stop}
use Rattle.store_tables.specs.Calls.{LeavesOnly, Settled}
use Rattle.store_tables.specs.Looking.{IsFailure}
use Rattle.store_tables.specs.Rows.{Rows}
use Rattle.store_rows.specs.Looking.{Sees, SeesBy}
use Rattle.store_rows.specs.Meaning.{AreReadable}
use Rattle.store.specs.Archives.{Keeps}
use Rattle.store.specs.Histories.{is_storage}
use Rattle.store.specs.Viewing.{AreSeen, Kept, Shows}

-- the rows of an archive
abbrev pub seen_of : {society : List ℕ} {c : Content} {rows : Rows} → Keeps society c rows → AreSeen rows c
seen_of keeps = record {
  means = keeps.means;
  shallow = keeps.shallow;
  links = keeps.links;
  soughts = keeps.soughts;
}

abbrev pub kept_of : (rows : Rows) (c : Content) → AreSeen rows c → Kept
kept_of rows c seen = record { rows = rows; content = c; seen = seen }

-- before the first look
abbrev pub shown_of : (s : State) (lost : Bool) (kept : Kept) → Settled s kept.rows → LeavesOnly s kept.rows
    → Shows s lost 0 kept
shown_of s lost kept was leaves = record { crash = leaves; settled = λ _. was; none = λ _. refl }

-- ---- a look that answers
-- where it is so of rows that keep something which all that are seen keep
pub ok_shown_by : {A : Type 0} (Keeps : Rows → Content → Type 0) (Is : Content → A → Type 0) (old new : State)
    (lost : Bool) (failures : ℕ) (a : A) → lost ≡ false
    → ((rows : Rows) (c : Content) → AreSeen rows c → Keeps rows c) → SeesBy Keeps Is old new (Ok a) → HasCleanDisk new
    → HasCleanDisk old × ((kept : Kept) → Shows old lost failures kept → Shows new lost failures kept
    × Is kept.content a)
ok_shown_by Keeps Is old new lost failures a on keeps sees clean = (
  sees.clean clean,
  λ kept shown.
      let was = shown.settled on in (
        record {
          crash = sees.crash clean kept.rows was;
          settled = λ _. sees.same clean kept.rows was;
          none = shown.none;
        },
        sees.read clean kept.rows was kept.content kept.seen.means (keeps kept.rows kept.content kept.seen),
      ),
)

pub ok_shown : {A : Type 0} (Is : Content → A → Type 0) (old new : State) (lost : Bool) (failures : ℕ) (a : A)
    → lost ≡ false → Sees Is old new (Ok a) → HasCleanDisk new
    → HasCleanDisk old × ((kept : Kept) → Shows old lost failures kept → Shows new lost failures kept
    × Is kept.content a)
ok_shown Is old new lost failures a on sees =
    ok_shown_by (λ _ _. Unit {0}) Is old new lost failures a on (λ rows c seen. tt) (record {
      read = λ clean rows was c means _. sees.read clean rows was c means;
      same = sees.same;
      refused = λ clean. tt;
      crash = sees.crash;
      clean = sees.clean;
    })

-- ---- a look that is refused
storage_is : (k : RefusalKind) → is_storage k ≡ true → k ≡ Storage
storage_is Storage e = refl
storage_is _ e = absurd (true≢false (sym e))

not_storage : (lost : Bool) (k : RefusalKind) → lost || is_storage k ≡ false → is_storage k ≡ false
not_storage false k e = e
not_storage true k e = absurd (true≢false e)

-- what is refused with is out of memory, or 80
fails : (rows : Rows) (kind : RefusalKind) → AreReadable rows → IsFailure kind
    ⊎ ((kind ≡ BadStored) × ¬ (AreReadable rows)) → IsFailure kind
fails rows kind readable (inl failure) = failure
fails rows kind readable (inr bad) = absurd (bad.1 readable)

want_is : (kind result : RefusalKind) → is_storage result ≡ false → (is_storage result ≡ false → result ≡ kind)
    → IsFailure kind → result ≡ OutOfMemory
want_is kind result sure same (inl want) = same sure ∙ want
want_is kind result sure same (inr lost) = absurd (true≢false (sym (ap is_storage (same sure ∙ lost)) ∙ sure))

stops_as : (b : Bool) (kind result : RefusalKind) → is_storage result ≡ b → (is_storage result ≡ false → result ≡ kind)
    → IsFailure kind → is_stop result ≡ true
stops_as true kind result e same failure = ap is_stop (storage_is result e)
stops_as false kind result e same failure = ap is_stop (want_is kind result e same failure)

-- whatever is kept of the content, of a refusal the same is said
pub refused_by : {A : Type 0} (Keeps : Rows → Content → Type 0) (Is : Content → A → Type 0) (old new : State)
    (kind : RefusalKind) → SeesBy Keeps Is old new (Err kind) → Sees Is old new (Err kind)
refused_by Keeps Is old new kind sees = record {
  read = λ clean. tt;
  same = λ clean. tt;
  refused = sees.refused;
  crash = sees.crash;
  clean = sees.clean;
}

-- the connection was asked afterwards whether it answers still
pub err_shown : {A : Type 0} (Is : Content → A → Type 0) (old mid new : State) (lost lost_now : Bool)
    (failures failures_now : ℕ) (kind result : RefusalKind) → lost ≡ false
    → Sees Is old mid (Err kind) → HasCleanDisk mid → ((t : Trees) → new.may_leave t → mid.may_leave t)
    → (is_storage result ≡ false → (rows : Rows) → LeavesOnly mid rows → Settled new rows)
    → (is_storage result ≡ false → result ≡ kind)
    → lost_now ≡ lost || is_storage result → (is_failure result ≡ false → failures_now ≡ failures)
    → HasCleanDisk old × ((kept : Kept) → Shows old lost failures kept → Shows new lost_now failures_now kept
    × (is_stop result ≡ true))
err_shown Is old mid new lost lost_now failures failures_now kind result on sees clean left settled same now passed = (
  sees.clean clean,
  λ kept shown.
      let was = shown.settled on in
      let readable : AreReadable kept.rows = (kept.content, kept.seen.means, kept.seen.shallow) in
      let failure = fails kept.rows kind readable (sees.refused clean kept.rows was) in
      let leaves = sees.crash clean kept.rows was in
      let sure : lost_now ≡ false → is_storage result ≡ false = λ e. not_storage lost result (sym now ∙ e) in (
        record {
          crash = λ t l. leaves t (left t l);
          settled = λ e. settled (sure e) kept.rows leaves;
          none = λ e. passed (ap is_failure (want_is kind result (sure e) same failure)) ∙ shown.none on;
        },
        stops_as (is_storage result) kind result refl same failure,
      ),
)

-- the archive was lost before
pub lost_shown : (old new : State) (lost lost_now : Bool) (failures failures_now : ℕ)
    (result : RefusalKind) → lost ≡ true
    → HasCleanDisk old → ((t : Trees) → new.may_leave t → old.may_leave t)
    → (is_storage result ≡ false → result ≡ Storage) → lost_now ≡ lost || is_storage result
    → HasCleanDisk old × ((kept : Kept) → Shows old lost failures kept → Shows new lost_now failures_now kept
    × (is_stop result ≡ true))
lost_shown old new lost lost_now failures failures_now result was clean left same now =
    let still : lost_now ≡ true = now ∙ ap (λ b. b || is_storage result) was in (
      clean,
      λ kept shown. (
        record {
          crash = λ t l. shown.crash t (left t l);
          settled = λ e. absurd (true≢false (sym still ∙ e));
          none = λ e. absurd (true≢false (sym still ∙ e));
        },
        stops_as (is_storage result) Storage result refl same (inr refl),
      ),
    )

-- ---- a request that was decided while no look failed
-- as the clauses of a view have it
abbrev Rose : ℕ → ℕ → Type 0
Rose before after = (before < after) ⊎ (after ≡ 2 ^ 64 - 1)

not_risen : Rose 0 0 → ⊥
not_risen (inl less) = absurd (omega (arith, less))
not_risen (inr last) = absurd (omega (arith, last))

pub none_is_bad : (before after : ℕ) (e : Refusal) → before ≡ 0 → after ≡ 0
    → (is_failure e.kind ≡ true → Rose before after) → e.kind ≢ BadStored
none_is_bad before after e first last rose bad =
    not_risen (subst (λ n. Rose n 0) first (subst (λ n. Rose before n) last (rose (ap is_failure bad))))
