-- One row whose answer may be expected: what it asks for, what it would be answered, and what becomes of it. No clause
-- of a public call names this. Rules of our own.
use Rattle.std.specs.Prelude.{
  ◌≡◌,
  ◌⊎◌,
  ℕ,
  Bool,
  false,
  true,
  not,
  List,
  Option,
  Some,
  Result,
  Ok,
  Err,
  IfErr,
  MatchBool,
}
use Rattle.std.specs.Io.KnownBytes.{Appends}
use Rattle.sqlite.specs.Held.{state}
use Rattle.sqlite.specs.State.{HasCleanDisk}
use Rattle.sqlite_trees.specs.declared.store.Store.{Ghosts}
use Rattle.archive_core.specs.Applied.{Decides}
use Rattle.archive_core.specs.Machine.{outcome}
use Rattle.archive_state.specs.Changes.{Changes}
use Rattle.archive_state.specs.Content.{Content}
use Rattle.archive_state.specs.Looks.{is_failure}
use Rattle.archive_core.specs.declared.request.Request.{Request}
use Rattle.commands.specs.Rows.{is_want}
use Rattle.record_text.specs.declared.refusal.Refusal.{Refusal}
use Rattle.record_text.specs.declared.refusal.RefusalKind.{RefusalKind}
use Rattle.record_text.specs.declared.refusal.RefusalKind.TheVariants.{OutOfMemory, Storage}
use Rattle.request_csv.specs.Input.{Row}
use Rattle.store.specs.Calls.{OnArchive}
use Rattle.store.specs.Histories.{Outcome, has_failed}
use Rattle.store.specs.Looking.{StaysReadable}
use Rattle.store.specs.Shut.{is_shut}
use Rattle.store.specs.Viewing.{OnReadable}
use Rattle.store.specs.declared.archive.Archive.{Archive}
use Rattle.archive_input.specs.Answers.{Served, answer_text}
use Rattle.archive_input.specs.Applying.{IsServed, IsServedIn, OnlyLooks, Steps, WritesPart, failing}
use Rattle.archive_input.specs.Referring.{AnswersRow, EndsServing}
use Rattle.archive_input.specs.Requests.{Asked}
use Rattle.archive_input.specs.RowByRow.{Moment, Serves, refusal_in, refusal_of}
use Rattle.archive_input.specs.declared.bad_request.BadRequest.{BadRequest}
use Rattle.expected_rows.specs.Expecting.{
  DoesExpected,
  IsUnexpected,
  Left,
  OnlyLooked,
  WouldBe,
  is_expected,
  is_wanting,
  token_in,
  without_next,
}
use Rattle.expected_rows.specs.declared.meeting.Met.{Met}
use Rattle.expected_rows.specs.declared.meeting.Met.TheVariants as met

-- what became of a row that asks for this, where this became of its request
abbrev pub as_served : Asked → Outcome → Served
as_served (Ok r) o = Ok (r, o)
as_served (Err bad) o = Err bad

-- memory was found to read it
abbrev pub is_read : Asked → Bool
is_read (Ok r) = true
is_read (Err bad) = not (is_want bad.kind)

-- what a row asks for of an archive, which was looked at only for its references
pub record AsksOf {S : Type 0} (g : Ghosts S) (row : Row) (asked : Asked) (old new : Archive S g) : Type 0 where
  pub is : (o : Outcome) → IsServed row (as_served asked o)
  pub within : (o : Outcome) → IsServedIn g row (as_served asked o) old new
  pub known : is_read asked ≡ true
  pub looked : (new ≡ old) ⊎ OnlyLooks g row old new

-- the call ended before anything of the row was done or written: memory was refused, or the looks lost the archive
abbrev pub EndsAsking : {S : Type 0} → (g : Ghosts S) → Row → (old new : Archive S g) → RefusalKind → Type 0
EndsAsking g row old new kind = ((kind ≡ OutOfMemory) × OnlyLooked g old new)
    ⊎ ((kind ≡ Storage) × (r : Request) × IsServed row (Ok (r, failing)) × IsServedIn g row (Ok (r, failing)) old new
    × Steps g (Ok (r, failing)) old new)

-- what a request would be answered by an archive, which was only looked at
pub record Foresees {S : Type 0} (g : Ghosts S) (r : Request) (o : Outcome) (old new : Archive S g) : Type 0 where
  pub would_be : HasCleanDisk (state g new.conn) → is_shut old ≡ false
      → OnArchive (state g old.conn) (λ society c rows. WouldBe c (Ok (r, o)))
  pub known : is_wanting (Ok (r, o)) ≡ false
  pub looked : OnlyLooked g old new

-- what looks at an archive have decided of a request: that is right where no look has failed
abbrev pub DecidesSurely : Content → Request → Result Changes Refusal → Type 0
DecidesSurely c r decided = Decides c decided (outcome c r) × IfErr decided (λ e. is_failure e.kind ≡ false)

abbrev pub LooksDeciding : {S : Type 0} → (g : Ghosts S) → Request → Archive S g → Result Changes Refusal
    → Archive S g → Type 0
LooksDeciding g r old decided new = HasCleanDisk (state g new.conn)
    → StaysReadable (state g old.conn) new.is_lost (state g new.conn)
    × OnReadable (state g old.conn) (λ rows c. new.is_lost ≡ false → DecidesSurely c r decided)

-- its answer; not that memory was refused
abbrev pub Foretells : Result Changes Refusal → Outcome → Type 0
Foretells (Ok changes) o = o ≡ Ok changes.answer
Foretells (Err e) o = (o ≡ Err e) × (is_want e.kind ≡ false)

-- that was not found out: the looks lost the archive, or memory was refused
abbrev pub EndsForeseeing : {S : Type 0} → (g : Ghosts S) → Request → (old new : Archive S g) → RefusalKind → Type 0
EndsForeseeing g r old new kind =
    ((kind ≡ Storage) × Steps g (Ok (r, failing)) old new) ⊎ ((kind ≡ OutOfMemory) × OnlyLooked g old new)

-- of each token this is expected now
abbrev pub AreLeft : Left → Left → Type 0
AreLeft now left = (other : List ℕ) → now other ≡ left other

-- a request was performed and answered as is expected, which is then expected no more; or it would be answered
-- otherwise, and is not performed
abbrev pub PerformsExpected : {S : Type 0} → (g : Ghosts S) → Request → (left rest : Left) → (old new : Archive S g)
    → (before after : Option (List ℕ)) → Met → Type 0
PerformsExpected g r left rest old new before after (met.Served refused) =
    (o : Outcome) × Steps g (Ok (r, o)) old new × (has_failed o ≡ false)
    × Appends before after (answer_text (Ok (r, o))) × (refused ≡ refusal_in o) × (is_expected left (Ok (r, o)) ≡ true)
    × AreLeft rest (without_next left r.token)
PerformsExpected g r left rest old new before after met.Unexpected =
    (o : Outcome) × Foresees g r o old new × (is_expected left (Ok (r, o)) ≡ false) × (after ≡ before)

-- the call ended before it was performed, since memory was refused; or then, and it is done only if that is as is
-- expected
abbrev pub EndsPerforming : {S : Type 0} → (g : Ghosts S) → Request → Left → (old new : Archive S g)
    → (before after : Option (List ℕ)) → RefusalKind → Type 0
EndsPerforming g r left old new before after kind = ((kind ≡ OutOfMemory) × OnlyLooked g old new × (after ≡ before))
    ⊎ ((o : Outcome) × Steps g (Ok (r, o)) old new × MatchBool (has_failed o) ((kind ≡ Storage) × (after ≡ before))
    (WritesPart kind before after (answer_text (Ok (r, o)))) × DoesExpected g left (Ok (r, o)) old new)

-- a row that is refused so was answered, and that was expected; or it was not answered
abbrev pub RefusesExpected : BadRequest → (left rest : Left) → (before after : Option (List ℕ)) → Met → Type 0
RefusesExpected bad left rest before after (met.Served refused) =
    Appends before after (answer_text (Err bad)) × (refused ≡ Some bad.kind) × (is_expected left (Err bad) ≡ true)
    × AreLeft rest (without_next left (token_in (Err bad)))
RefusesExpected bad left rest before after met.Unexpected = (is_expected left (Err bad) ≡ false) × (after ≡ before)

-- a row was served as it asks, and answered as is expected; or it is left alone
abbrev pub AnswersExpected : {S : Type 0} → (g : Ghosts S) → Row → (left rest : Left) → (old new : Archive S g)
    → (before after : Option (List ℕ)) → Met → Type 0
AnswersExpected g row left rest old new before after (met.Served refused) =
    (answers : AnswersRow g row old new before after refused) × (is_expected left answers.0 ≡ true)
    × AreLeft rest (without_next left (token_in answers.0))
AnswersExpected g row left rest old new before after met.Unexpected =
    IsUnexpected g left row old new × (after ≡ before)

-- the call ended before it, since memory was refused; or in it, and it is done only if that is as is expected
abbrev pub EndsExpected : {S : Type 0} → (g : Ghosts S) → Row → Left → (old new : Archive S g)
    → (before after : Option (List ℕ)) → RefusalKind → Type 0
EndsExpected g row left old new before after kind = ((kind ≡ OutOfMemory) × OnlyLooked g old new × (after ≡ before))
    ⊎ ((ends : EndsServing g row old new before after kind) × DoesExpected g left ends.0 old new)

-- the same with what is said of it
module _ {S W F : Type 0} (g : Ghosts S) (written : W → Option (List ℕ)) (told : F → Option (List ℕ)) where
  abbrev pub Meets : ℕ → Row → (left rest : Left) → Met → Moment g W F → Moment g W F → Type 0
  Meets number row left rest (met.Served refused) a b =
      (s : Served) × IsServed row s × Serves g written told number row s a b × (refused ≡ refusal_of s)
      × (is_expected left s ≡ true) × AreLeft rest (without_next left (token_in s))
  Meets number row left rest met.Unexpected a b = IsUnexpected g left row a.archive b.archive
      × (written b.output ≡ written a.output) × (told b.faults ≡ told a.faults)
