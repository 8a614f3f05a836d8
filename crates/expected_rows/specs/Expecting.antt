-- Rows that are served as long as each is answered as is expected. Rules of our own.
use Rattle.std.specs.Prelude.{
  ◌≡◌,
  ◌+◌,
  ◌++◌,
  ◌≤◌,
  ℕ,
  Bool,
  true,
  false,
  List,
  [],
  ◌∷◌,
  bytes_eq,
  length,
  Option,
  Ok,
  Err,
  if◌then◌else◌,
  unwrap_or,
}
use Rattle.std.specs.List.{AllByRecursion}
use Rattle.sqlite.specs.Held.{state}
use Rattle.sqlite.specs.State.{HasCleanDisk}
use Rattle.sqlite_trees.specs.declared.store.Store.{Ghosts}
use Rattle.archive_core.specs.Machine.{outcome}
use Rattle.archive_state.specs.Content.{Content}
use Rattle.commands.specs.Rows.{is_want}
use Rattle.record_text.specs.declared.refusal.RefusalKind.{RefusalKind}
use Rattle.request_csv.specs.Input.{AreFirstRows, Row}
use Rattle.expected_answers.specs.Expected.{is_next, rest}
use Rattle.store.specs.Calls.{OnArchive}
use Rattle.store.specs.Shut.{is_shut}
use Rattle.store.specs.declared.archive.Archive.{Archive}
use Rattle.archive_input.specs.Answers.{Served, answer_text}
use Rattle.archive_input.specs.Applying.{Ended, IsServed, IsServedIn, PerformsAll}
use Rattle.archive_input.specs.RowByRow.{AppliedInTurn, Moment, ServesAll, StoppedInTurn}
use Rattle.archive_input.specs.Stopping.{AreAccepted, IsRefusedLast, row_place}
use Rattle.expected_rows.specs.declared.expecting.Ending.{Ending}
use Rattle.expected_rows.specs.declared.expecting.Ending.TheVariants.{All, Refused, Unexpected}

-- ---- answers of rows
-- of each token the answers that are expected of it, as `apply` writes them
abbrev pub Left : Type 0
Left = List ℕ → List (List ℕ)

-- the next answer of a token is expected no more
abbrev pub without_next : Left → List ℕ → List ℕ → List (List ℕ)
without_next left token other = if bytes_eq token other then rest (left other) else left other

-- the token of a row that was served; empty where none is known
abbrev pub token_in : Served → List ℕ
token_in (Ok done) = done.0.token
token_in (Err bad) = unwrap_or bad.token []

-- a row is answered as the next that is expected of its token; or nothing is expected of that
abbrev pub is_expected : Left → Served → Bool
is_expected left s = is_next (left (token_in s)) (answer_text s)

-- each is, one after the other: the k-th row of a token as the k-th that is expected of it
abbrev pub AreExpected : Left → List Served → Type 0
AreExpected left [] = Unit {0}
AreExpected left (s ∷ served) = (is_expected left s ≡ true) × AreExpected (without_next left (token_in s)) served

-- what is expected after these
abbrev pub left_after : Left → List Served → Left
left_after left [] = left
left_after left (s ∷ served) = left_after (without_next left (token_in s)) served

-- ---- a row that would be answered otherwise
-- what a row would be answered by what an archive holds, were it served
abbrev pub WouldBe : Content → Served → Type 0
WouldBe c (Ok (r, Ok answer)) = (after : Content) × (outcome c r ≡ Ok (after, answer))
WouldBe c (Ok (r, Err e)) = outcome c r ≡ Err e
WouldBe c (Err bad) = Unit {0}

-- it was not found out what becomes of a row: memory was refused
abbrev pub is_wanting : Served → Bool
is_wanting (Ok (r, Ok answer)) = false
is_wanting (Ok (r, Err e)) = is_want e.kind
is_wanting (Err bad) = is_want bad.kind

-- an archive was only looked at
pub record OnlyLooked {S : Type 0} (g : Ghosts S) (old new : Archive S g) : Type 0 where
  pub free : is_shut old ≡ false → is_shut new ≡ false
  pub performed : PerformsAll g old [] new
  pub shut : is_shut old ≡ true → new ≡ old

-- the row after those of an input that were served is not: it would be answered otherwise than is expected
pub record IsUnexpected {S : Type 0} (g : Ghosts S) (left : Left) (row : Row) (old new : Archive S g) : Type 0 where
  pub served : Served
  pub asked : IsServed row served
  pub asked_in : IsServedIn g row served old new
  pub would_be : HasCleanDisk (state g new.conn) → is_shut old ≡ false
      → OnArchive (state g old.conn) (λ society c rows. WouldBe c served)
  pub otherwise : is_expected left served ≡ false
  pub known : is_wanting served ≡ false
  pub looked : OnlyLooked g old new

-- rows were answered as is expected, and none was refused where the call stops at the first that is
abbrev pub AreAnswered : Bool → Left → List Served → Type 0
AreAnswered stops left served = AreExpected left served × (stops ≡ true → AreAccepted served)

-- a row in which a call ended is done only if its answer is as is expected
abbrev pub IsDoneExpected : Left → Served → Type 0
IsDoneExpected left (Ok (r, Ok answer)) = is_expected left (Ok (r, Ok answer)) ≡ true
IsDoneExpected left (Ok (r, Err e)) = Unit {0}
IsDoneExpected left (Err bad) = Unit {0}

-- the same where an archive was good before it, and the disk is clean
abbrev pub DoesExpected : {S : Type 0} → (g : Ghosts S) → Left → Served → (old new : Archive S g) → Type 0
DoesExpected g left s old new = HasCleanDisk (state g new.conn) → is_shut old ≡ false
    → OnArchive (state g old.conn) (λ society c rows. IsDoneExpected left s)

module _ {S W F : Type 0} (g : Ghosts S) (written : W → Option (List ℕ)) (told : F → Option (List ℕ)) where
  -- the first rows of an input were served, and the next would be answered otherwise than is expected: it is not done
  -- and not answered, and nothing is said of it
  abbrev pub StoppedBefore : Bool → Left → ℕ → Option (List ℕ) → Moment g W F → Moment g W F → Type 0
  StoppedBefore stops left number input a b =
      (m : Moment g W F) × (part : StoppedInTurn g written told input a m) × AreAnswered stops left part.0.served
      × (row : Row) × AreFirstRows input (part.0.rows ++ row ∷ []) × (number ≡ row_place (length part.0.served + 1))
      × IsUnexpected g (left_after left part.0.served) row m.archive b.archive
      × (written b.output ≡ written m.output) × (told b.faults ≡ told m.faults)

  -- all rows of an input were served, each answered as is expected; or the first of them, up to one that was refused,
  -- or before one that would be answered otherwise
  abbrev pub AppliedAsExpected : Bool → Left → Ending → Option (List ℕ) → Moment g W F → Moment g W F → Type 0
  AppliedAsExpected stops left All input a b =
      (all : AppliedInTurn g written told input a b) × AreAnswered stops left all.0.served
  AppliedAsExpected stops left (Refused e) input a b = (part : StoppedInTurn g written told input a b)
      × (stops ≡ true) × AreExpected left part.0.served × IsRefusedLast part.0.served e
  AppliedAsExpected stops left (Unexpected number) input a b = StoppedBefore stops left number input a b

  -- rows were served so up to the moment at which the call ended; the last, where it ended in that, is done only as is
  -- expected, and of it nothing is said
  abbrev pub ServesExpected : Bool → Left → List Row → List Served → Moment g W F → Moment g W F → Type 0
  ServesExpected stops left rows served a b =
      (first : List Served) × (last : List Served) × (served ≡ first ++ last) × (length last ≤ 1)
      × (begun : List Row) × (more : List Row) × (rows ≡ begun ++ more)
      × (m : Moment g W F) × ServesAll g written told 1 begun first a m × (told b.faults ≡ told m.faults)
      × AreAnswered stops left first
      × AllByRecursion (λ (s : Served). DoesExpected g (left_after left first) s m.archive b.archive) last

  -- the call ended early, and the rows that were served whole were answered so
  abbrev pub EndedAsExpected : Bool → Left → RefusalKind → Option (List ℕ) → Moment g W F → Moment g W F → Type 0
  EndedAsExpected stops left kind input a b =
      (part : Ended g kind input (written a.output) (written b.output) a.archive b.archive)
      × ServesExpected stops left part.rows part.served a b
