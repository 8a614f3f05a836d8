-- What is said of what is shown of an archive that is open, from what was read of it.
use Rattle.std.proofs.Common.{◌≡◌, ◌⊎◌, inl, inr, ℕ, ℤ, List, Ok, Err, sym, subst}
use Rattle.std.specs.Prelude.{Option, Result, IfErr, IfOk, OnOk}
use Rattle.sqlite.specs.State.{HasCleanDisk, State}
use Rattle.archive_state.specs.Content.{Content}
use Rattle.archive_state.specs.Sound.{IsSound}
use Rattle.record_text.specs.declared.refusal.RefusalKind.{RefusalKind}
use Rattle.store.specs.Archives.{HasArchive}
use Rattle.store.specs.Calls.{Reads}
use Rattle.store_tables.specs.Looking.{IsFailure}
use Rattle.archive_output.specs.Reading.{OnOpen}
use Rattle.archive_output.proofs.Asked.{follows, read_as}
use Rattle.archive_output.specs.Showing.{IsShown, OnShown}
use Rattle.archive_output.specs.Writing.{IsNotBegun}
use Rattle.list_laws.proofs.Outcomes.{keeps}

-- ---- what was read, masked
module _ (old new : State) (held : Content)
    (reads : HasCleanDisk new → Reads (λ _ c found. found ≡ c) old (Ok held) new) where
  pub read : OnOpen old new (λ society c. (held ≡ c) × HasArchive society c new)
  read = read_as (λ _ c found. found ≡ c) old new (λ _ c. held ≡ c) held (λ _ _ _ is. is) reads

  pub shown_as : (given today : ℤ) → given ≡ today → (r : Result Content RefusalKind)
      → (IsSound held → IfOk r (λ s. IsShown held given s))
      → IfOk r (λ s. OnOpen old new (λ society c. IsShown c today s × HasArchive society c new))
  shown_as given today day (Ok s) shows = read_as (λ _ c found. found ≡ c) old new (λ _ c. IsShown c today s) held
      (λ _ c sound is. subst (λ (x : Content). IsShown x today s) is (subst (λ (t : ℤ). IsShown held t s) day
      (shows (subst IsSound (sym is) sound)))) reads
  shown_as given today day (Err kind) shows = tt

  -- what was written of it, whole or in part
  pub each_of_held : {A : Type 0} (r : Result A RefusalKind) (P : A → Content → Type 0) → IfOk r (λ a. P a held)
      → IfOk r (λ a. OnOpen old new (λ _ c. P a c))
  each_of_held (Ok a) P did = follows old new (λ society c. (held ≡ c) × HasArchive society c new) (λ _ c. P a c)
      (λ _ c is. subst (P a) is.0 did) read
  each_of_held (Err kind) P did = tt

  pub all_of_held : {A : Type 0} (r : Result A RefusalKind) (P : Content → Type 0) → OnOk r (P held)
      → OnOk r (OnOpen old new (λ _ c. P c))
  all_of_held r P did = each_of_held r (λ _. P) did

  pub part_of_held : {A : Type 0} (r : Result A RefusalKind) (P : RefusalKind → Content → Type 0)
      → IfErr r (λ kind. P kind held) → IfErr r (λ kind. OnOpen old new (λ _ c. P kind c))
  part_of_held (Ok a) P did = tt
  part_of_held (Err kind) P did = follows old new (λ society c. (held ≡ c) × HasArchive society c new)
      (λ _ c. P kind c) (λ _ c is. subst (P kind) is.0 did) read

-- the same of what was made of it
pub same_of : (r : Result Content RefusalKind) (s : Content) (P : Content → Type 0) → IfOk r (λ l. l ≡ s) → P s
    → IfOk r P
same_of (Ok l) s P same p = subst P (sym same) p
same_of (Err kind) s P same p = tt

-- ---- what was written of what is shown; the day as it was given, and as it is
pub of_day : (old new : State) (given today : ℤ) (s : Content) → given ≡ today
    → OnOpen old new (λ society c. IsShown c given s × HasArchive society c new)
    → OnOpen old new (λ society c. IsShown c today s × HasArchive society c new)
of_day old new given today s day is = subst
    (λ (t : ℤ). OnOpen old new (λ society c. IsShown c t s × HasArchive society c new)) day is

of_either : {N : Type 0} (c : Content) (today : ℤ) (s : Content) (P : Content → Type 0) → IsShown c today s → N ⊎ P s
    → N ⊎ OnShown c today P
of_either c today s P is (inl n) = inl n
of_either c today s P is (inr p) = inr (s, is, p)

module _ {A : Type 0} (old new : State) (today : ℤ) (s : Content)
    (shown : OnOpen old new (λ society c. IsShown c today s × HasArchive society c new)) where
  pub each_of_shown : (r : Result A RefusalKind) (P : A → Content → Type 0) → (IsSound s → IfOk r (λ a. P a s))
      → IfOk r (λ a. OnOpen old new (λ _ c. OnShown c today (P a)))
  each_of_shown (Ok a) P did = follows old new (λ society c. IsShown c today s × HasArchive society c new)
      (λ _ c. OnShown c today (P a)) (λ _ _ is. (s, is.0, did is.0.sound)) shown
  each_of_shown (Err kind) P did = tt

  pub all_of_shown : (r : Result A RefusalKind) (P : Content → Type 0) → (IsSound s → OnOk r (P s))
      → OnOk r (OnOpen old new (λ _ c. OnShown c today P))
  all_of_shown r P did = each_of_shown r (λ _. P) did

  pub none_of_shown : (r : Result A RefusalKind) (N : RefusalKind → Type 0) (P : RefusalKind → Content → Type 0)
      → (IsSound s → IfErr r (λ kind. N kind ⊎ P kind s))
      → IfErr r (λ kind. OnOpen old new (λ _ c. N kind ⊎ OnShown c today (P kind)))
  none_of_shown (Ok a) N P did = tt
  none_of_shown (Err kind) N P did = follows old new (λ society c. IsShown c today s × HasArchive society c new)
      (λ _ c. N kind ⊎ OnShown c today (P kind)) (λ _ c is. of_either c today s (P kind) is.0 (did is.0.sound)) shown

-- ---- nothing was written

pub not_begun : (old new : State) (kind : RefusalKind) (before : Option (List ℕ)) (Q : List ℕ → Content → Type 0)
    → OnOpen old new (λ _ _. IsFailure kind) → OnOpen old new (λ society c. IsNotBegun kind before before ⊎ Q society c)
not_begun old new kind before Q fails = follows old new (λ _ _. IsFailure kind)
    (λ society c. IsNotBegun kind before before ⊎ Q society c) (λ _ _ is. inl (is, keeps before)) fails
