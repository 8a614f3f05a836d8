-- What is said of what was read, whether the tables are good or not: shown only where it is sound.
use Rattle.std.proofs.Common.{◌≡◌, ◌⊎◌, inl, inr, ℕ, ℤ, Bool, true, false, List, Ok, Err, refl, sym, ap, subst}
use Rattle.std.specs.Prelude.{Result, IfErr, IfOk, OnOk}
use Rattle.sqlite.specs.State.{State, HasCleanDisk}
use Rattle.archive_state.specs.Content.{Content}
use Rattle.archive_state.specs.Sound.{IsSound}
use Rattle.archive_state.specs.Looks.{is_stop}
use Rattle.record_text.specs.declared.refusal.RefusalKind.{RefusalKind}
use Rattle.record_text.specs.declared.refusal.RefusalKind.TheVariants.{BadStored, OutOfMemory}
use Rattle.store.specs.Archives.{HasArchive}
use Rattle.store.specs.Histories.{has_broken, is_storage}
use Rattle.store_tables.specs.Looking.{IsFailure}
use Rattle.archive_output.specs.Reading.{OnOpen}
use Rattle.archive_output.proofs.Asked.{follows}
use Rattle.store.specs.Calls.{Stays}
use Rattle.archive_output.specs.Showing.{IsOfTables, IsShown, OfSound, OnShown}

-- out of memory, or 40 of a state that is not sound
abbrev pub IsUnsound : Content → RefusalKind → Type 0
IsUnsound held kind = (kind ≡ OutOfMemory) ⊎ ((kind ≡ BadStored) × ¬ (IsSound held))

pub day_of : (held : Content) (given today : ℤ) → given ≡ today → (r : Result Content RefusalKind)
    → (IsSound held → IfOk r (λ s. IsShown held given s)) → IsSound held
    → IfOk r (λ s. IsSound held × IsShown held today s)
day_of held given today day (Ok s) shows sound = (sound, subst (λ (t : ℤ). IsShown held t s) day (shows sound))
day_of held given today day (Err kind) shows sound = tt

pub want_unsound : {A : Type 0} (held : Content) (r : Result A RefusalKind) → IfErr r (λ kind. kind ≡ OutOfMemory)
    → IfErr r (IsUnsound held)
want_unsound held (Ok a) want = tt
want_unsound held (Err kind) want = inl want

pub only_shown : (held : Content) (today : ℤ) (r : Result Content RefusalKind)
    → IfOk r (λ s. IsSound held × IsShown held today s) → IsSound held → IfOk r (λ s. IsShown held today s)
only_shown held today (Ok s) is sound = is.1
only_shown held today (Err kind) is sound = tt

pub sound_as : (old new : State) (held : Content) → IsOfTables old new held → (given today : ℤ) → given ≡ today
    → (r : Result Content RefusalKind) → IfOk r (λ s. IsSound held × IsShown held given s)
    → IfOk r (λ s. OfSound old new (λ c. IsShown c today s))
sound_as old new held of given today day (Ok s) is =
    (held, is.0, of, subst (λ (t : ℤ). IsShown held t s) day is.1)
sound_as old new held of given today day (Err kind) is = tt

-- ---- refusals
pub sound_fails : {A : Type 0} (old new : State) (held : Content) (r : Result A RefusalKind)
    → OnOpen old new (λ society c. (held ≡ c) × HasArchive society c new) → IfErr r (IsUnsound held)
    → IfErr r (λ kind. OnOpen old new (λ _ _. IsFailure kind))
sound_fails old new held (Ok a) open_ bad = tt
sound_fails old new held (Err kind) open_ (inl want) =
    follows old new (λ society c. (held ≡ c) × HasArchive society c new) (λ _ _. IsFailure kind)
    (λ _ _ _. inl want) open_
sound_fails old new held (Err kind) open_ (inr unsound) =
    follows old new (λ society c. (held ≡ c) × HasArchive society c new) (λ _ _. IsFailure kind)
    (λ society c is. absurd (unsound.1 (subst IsSound (sym is.0) is.1.2.sound))) open_

pub unsound_stops : {A : Type 0} (held : Content) (r : Result A RefusalKind) → IfErr r (IsUnsound held)
    → IfErr r (λ kind. is_stop kind ≡ true)
unsound_stops held (Ok a) bad = tt
unsound_stops held (Err kind) (inl want) = ap is_stop want
unsound_stops held (Err kind) (inr unsound) = ap is_stop unsound.0

pub unsound_alone : {A : Type 0} (held : Content) (r : Result A RefusalKind) → IfErr r (IsUnsound held)
    → has_broken r ≡ false
unsound_alone held (Ok a) bad = refl
unsound_alone held (Err kind) (inl want) = ap is_storage want
unsound_alone held (Err kind) (inr unsound) = ap is_storage unsound.0

-- ---- what was made of a sound archive
pub day_sound : (old new : State) (given today : ℤ) (s : Content) → given ≡ today
    → OfSound old new (λ c. IsShown c given s) → OfSound old new (λ c. IsShown c today s)
day_sound old new given today s day is = subst (λ (t : ℤ). OfSound old new (λ c. IsShown c t s)) day is

pub each_of_sound : {A : Type 0} (old new : State) (today : ℤ) (s : Content)
    → OfSound old new (λ c. IsShown c today s) → (r : Result A RefusalKind) (P : A → Content → Type 0)
    → (IsSound s → IfOk r (λ a. P a s)) → IfOk r (λ a. OfSound old new (λ c. OnShown c today (P a)))
each_of_sound old new today s shown (Ok a) P did =
    (shown.0, shown.1, shown.2, (s, shown.3, did shown.3.sound))
each_of_sound old new today s shown (Err kind) P did = tt

pub all_of_sound : {A : Type 0} (old new : State) (today : ℤ) (s : Content)
    → OfSound old new (λ c. IsShown c today s) → (r : Result A RefusalKind) (P : Content → Type 0)
    → (IsSound s → OnOk r (P s)) → OnOk r (OfSound old new (λ c. OnShown c today P))
all_of_sound old new today s shown r P did = each_of_sound old new today s shown r (λ _. P) did

-- under a name that was read first, which left the tables as they were
pub each_under : {A : Type 0} (old mid new : State) (failed : Bool) → failed ≡ false
    → (HasCleanDisk new → HasCleanDisk mid) → (HasCleanDisk mid → Stays old failed mid) → (r : Result A RefusalKind)
    (society : List ℕ) (P : A → List ℕ → Content → Type 0) → IfOk r (λ a. OfSound mid new (P a society))
    → IfOk r (λ a. OfSound old new (λ c. (name : List ℕ) × P a name c))
each_under old mid new failed sure before stays (Ok a) society P is = (
  is.0,
  is.1,
  λ clean rows settled. is.2 clean rows ((stays (before clean)).same sure rows settled),
  (society, is.3),
)
each_under old mid new failed sure before stays (Err kind) society P is = tt

-- of a result, whatever the name is
pub then_sound : {A : Type 0} (old mid new : State) (failed : Bool) → failed ≡ false
    → (HasCleanDisk new → HasCleanDisk mid) → (HasCleanDisk mid → Stays old failed mid) → (r : Result A RefusalKind)
    (P : A → Content → Type 0) → IfOk r (λ a. OfSound mid new (P a)) → IfOk r (λ a. OfSound old new (P a))
then_sound old mid new failed sure before stays (Ok a) P is = (
  is.0,
  is.1,
  λ clean rows settled. is.2 clean rows ((stays (before clean)).same sure rows settled),
  is.3,
)
then_sound old mid new failed sure before stays (Err kind) P is = tt

pub all_under : {A : Type 0} (old mid new : State) (failed : Bool) → failed ≡ false
    → (HasCleanDisk new → HasCleanDisk mid) → (HasCleanDisk mid → Stays old failed mid) → (r : Result A RefusalKind)
    (society : List ℕ) (P : List ℕ → Content → Type 0) → OnOk r (OfSound mid new (P society))
    → OnOk r (OfSound old new (λ c. (name : List ℕ) × P name c))
all_under old mid new failed sure before stays r society P is =
    each_under old mid new failed sure before stays r society (λ _. P) is
