-- What follows where an archive is only looked at before something is done.
use Rattle.std.proofs.Common.{
  ◌≡◌,
  ◌∙◌,
  ◌∷◌,
  ◌⊎◌,
  [],
  true,
  false,
  Ok,
  inl,
  inr,
  refl,
  subst,
  sym,
}
use Rattle.std.proofs.lemmas.Bool.{false≢true}
use Rattle.sqlite.specs.Held.{state}
use Rattle.sqlite.specs.State.{HasCleanDisk}
use Rattle.sqlite_trees.specs.declared.store.Store.{Ghosts}
use Rattle.archive_core.specs.Machine.{Done}
use Rattle.archive_state.specs.Content.{Content}
use Rattle.request_csv.specs.Input.{Row}
use Rattle.store.specs.Calls.{OnArchive}
use Rattle.store.specs.Looking.{StaysReadable}
use Rattle.store.specs.Shut.{is_shut}
use Rattle.store.specs.declared.archive.Archive.{Archive}
use Rattle.store.proofs.Histories.{performs_then}
use Rattle.archive_input.specs.Answers.{Served}
use Rattle.archive_input.specs.Applying.{IsServedIn, OnlyLooks, PerformsAll, RefusesAll, Steps}
use Rattle.archive_input.proofs.Stepped.{performs_looked}
use Rattle.expected_rows.specs.Expecting.{DoesExpected, IsDoneExpected, Left, OnlyLooked, WouldBe}

module _ {S : Type 0} (g : Ghosts S) where
  -- looks that did not fail
  pub looks_only : (old mid : Archive S g) → is_shut old ≡ false → is_shut mid ≡ false → mid.is_lost ≡ false
      → (HasCleanDisk (state g mid.conn) → StaysReadable (state g old.conn) mid.is_lost (state g mid.conn))
      → OnlyLooked g old mid
  looks_only old mid was free sure looks = record {
    free = λ _. free;
    performed = λ clean _. performs_looked (state g old.conn) (state g mid.conn) mid.is_lost (looks clean) sure;
    shut = λ shut. absurd (false≢true (sym was ∙ shut));
  }

  pub none_looked : (old : Archive S g) → PerformsAll g old [] old → OnlyLooked g old old
  none_looked old none = record { free = λ was. was; performed = none; shut = λ _. refl }

  pub asked_looked : (row : Row) (old mid : Archive S g) → PerformsAll g old [] old
      → (mid ≡ old) ⊎ OnlyLooks g row old mid → OnlyLooked g old mid
  asked_looked row old mid none (inl same) =
      subst (λ (a : Archive S g). OnlyLooked g old a) (sym same) (none_looked old none)
  asked_looked row old mid none (inr looked) = record {
    free = λ _. looked.2;
    performed = looked.3;
    shut = λ shut. absurd (false≢true (sym looked.1 ∙ shut));
  }

  module _ (old mid new : Archive S g) (looked : OnlyLooked g old mid) where
    -- looks after looks
    pub looked_on : OnlyLooked g mid new → OnlyLooked g old new
    looked_on on = record {
      free = λ was. on.free (looked.free was);
      performed = λ clean was.
          let p = on.performed clean (looked.free was) in
          performs_then (state g old.conn) (state g mid.conn) (state g new.conn) [] []
          (looked.performed p.clean was) refl p;
      shut = λ shut.
          on.shut (subst (λ (a : Archive S g). is_shut a ≡ true) (sym (looked.shut shut)) shut) ∙ looked.shut shut;
    }

    -- a request that is performed after looks
    pub steps_after : (done : Done) → Steps g (Ok done) mid new → Steps g (Ok done) old new
    steps_after done steps = (
      λ clean was.
          let p = steps.0 clean (looked.free was) in
          performs_then (state g old.conn) (state g mid.conn) (state g new.conn) [] (done ∷ [])
          (looked.performed p.clean was) refl p,
      λ was. steps.1 (looked.free was),
      λ shut. subst (λ (a : Archive S g). RefusesAll g a (done ∷ []) new) (looked.shut shut) steps.2 shut,
    )

    clean_steps : (done : Done) → Steps g (Ok done) mid new → is_shut old ≡ false → HasCleanDisk (state g new.conn)
        → HasCleanDisk (state g mid.conn)
    clean_steps done steps was clean = (steps.0 clean (looked.free was)).clean

    clean_looked : OnlyLooked g mid new → is_shut old ≡ false → HasCleanDisk (state g new.conn)
        → HasCleanDisk (state g mid.conn)
    clean_looked on was clean = (on.performed clean (looked.free was)).clean

    -- what is said of an archive before it, by what was said after looks
    pub within_steps : (row : Row) (s : Served) (done : Done) → Steps g (Ok done) mid new → IsServedIn g row s old mid
        → IsServedIn g row s old new
    within_steps row s done steps within = λ clean was. within (clean_steps done steps was clean) was

    pub within_looked : (row : Row) (s : Served) → OnlyLooked g mid new → IsServedIn g row s old mid
        → IsServedIn g row s old new
    within_looked row s on within = λ clean was. within (clean_looked on was clean) was

    -- what holds of what is in an archive after looks holds of what was in it before
    before_looks : (P : Content → Type 0) → HasCleanDisk (state g mid.conn) → is_shut old ≡ false
        → OnArchive (state g mid.conn) (λ society c rows. P c) → OnArchive (state g old.conn) (λ society c rows. P c)
    before_looks P clean was on = λ society c rows settled keeps.
        let still = (looked.performed clean was).done refl society c (rows, settled, keeps) in
        subst P still.1 (on society still.0 still.2.0 still.2.1 still.2.2)

    pub would_after : (s : Served) → OnlyLooked g mid new
        → (HasCleanDisk (state g new.conn) → is_shut mid ≡ false
        → OnArchive (state g mid.conn) (λ society c rows. WouldBe c s))
        → HasCleanDisk (state g new.conn) → is_shut old ≡ false
        → OnArchive (state g old.conn) (λ society c rows. WouldBe c s)
    would_after s on would clean was =
        before_looks (λ c. WouldBe c s) (clean_looked on was clean) was (would clean (looked.free was))

    pub does_after : (left : Left) (s : Served) (done : Done) → Steps g (Ok done) mid new
        → DoesExpected g left s mid new → DoesExpected g left s old new
    does_after left s done steps does = λ clean was.
        before_looks (λ _. IsDoneExpected left s) (clean_steps done steps was clean) was
        (does clean (looked.free was))
