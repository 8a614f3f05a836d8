-- Rows one after the other: what a row leaves is what the next begins from, so its answer is with the writer before
-- the next is decided; and what is wrong with a row is reported beside it. Rules of our own.
use Rattle.std.specs.Prelude.{
  ◌≡◌,
  ◌+◌,
  ◌++◌,
  ◌≤◌,
  ℕ,
  false,
  List,
  [],
  ◌∷◌,
  length,
  Option,
  None,
  Some,
  Ok,
  Err,
}
use Rattle.std.specs.Io.KnownBytes.{Appends}
use Rattle.sqlite_trees.specs.declared.store.Store.{Ghosts}
use Rattle.devices.specs.Devices.{AppendsBeginning}
use Rattle.record_text.specs.declared.refusal.RefusalKind.{RefusalKind}
use Rattle.request_csv.specs.Faults.{IsFault}
use Rattle.store.specs.Histories.{Outcome}
use Rattle.store.specs.declared.archive.Archive.{Archive}
use Rattle.archive_input.specs.Answers.{Served, answer_text}
use Rattle.request_csv.specs.Input.{AreFirstRows, Row}
use Rattle.archive_input.specs.Applying.{Applied, AppliedOf, Ended, IsServedIn, StepsRow, is_in_doubt}

-- why a request was refused, or a row, where it was
abbrev pub refusal_in : Outcome → Option RefusalKind
refusal_in (Ok answer) = None
refusal_in (Err e) = Some e.kind

abbrev pub refusal_of : Served → Option RefusalKind
refusal_of (Ok done) = refusal_in done.1
refusal_of (Err bad) = Some bad.kind

-- of a row that was refused its line is reported, or a beginning of it where memory is refused or the writer fails; of
-- another nothing
abbrev pub IsTold : ℕ → Option RefusalKind → Option (List ℕ) → Option (List ℕ) → Type 0
IsTold number None before after = after ≡ before
IsTold number (Some kind) before after = (line : List ℕ) × IsFault number kind line × AppendsBeginning before after line

-- of rows from this number on, one after the other
abbrev pub AreTold : ℕ → List Served → Option (List ℕ) → Option (List ℕ) → Type 0
AreTold number [] before after = after ≡ before
AreTold number (s ∷ served) before after =
    (middle : Option (List ℕ)) × IsTold number (refusal_of s) before middle × AreTold (number + 1) served middle after

-- the archive, the writer of the answers and that of the faults at one moment
pub record Moment {S : Type 0} (g : Ghosts S) (W F : Type 0) : Type 0 where
  pub archive : Archive S g
  pub output : W
  pub faults : F

-- `written` and `told` are what the two writers have got
module _ {S W F : Type 0} (g : Ghosts S) (written : W → Option (List ℕ)) (told : F → Option (List ℕ)) where
  -- the row of this number from one moment to the next: what it asks for in the archive of the first is performed, its
  -- answer is written, and what is wrong with it is reported
  pub record Serves (number : ℕ) (row : Row) (s : Served) (a b : Moment g W F) : Type 0 where
    pub asked : IsServedIn g row s a.archive b.archive
    pub performed : StepsRow g row s a.archive b.archive
    pub certain : is_in_doubt s ≡ false
    pub answered : Appends (written a.output) (written b.output) (answer_text s)
    pub faulted : IsTold number (refusal_of s) (told a.faults) (told b.faults)

  -- rows from this number on, each from the moment that the row before has left
  abbrev pub ServesAll : ℕ → List Row → List Served → Moment g W F → Moment g W F → Type 0
  ServesAll number [] [] a b = b ≡ a
  ServesAll number [] (s ∷ served) a b = ⊥
  ServesAll number (row ∷ rows) [] a b = ⊥
  ServesAll number (row ∷ rows) (s ∷ served) a b =
      (m : Moment g W F) × Serves number row s a m × ServesAll (number + 1) rows served m b

  -- the same of all rows, but for the last, where the call ended early in it; of that one nothing is reported
  abbrev pub ServesUpTo : List Row → List Served → Moment g W F → F → Type 0
  ServesUpTo rows served a faults =
      (first : List Served) × (last : List Served) × (served ≡ first ++ last) × (length last ≤ 1)
      × (begun : List Row) × (left : List Row) × (rows ≡ begun ++ left)
      × (m : Moment g W F) × ServesAll 1 begun first a m × (told faults ≡ told m.faults)

  -- all rows of an input were served and answered, each in its turn
  abbrev pub AppliedInTurn : Option (List ℕ) → Moment g W F → Moment g W F → Type 0
  AppliedInTurn input a b = (all : Applied g input (written a.output) (written b.output) a.archive b.archive)
      × ServesAll 1 all.rows all.served a b

  -- the first rows were, each in its turn
  abbrev pub StoppedInTurn : Option (List ℕ) → Moment g W F → Moment g W F → Type 0
  StoppedInTurn input a b =
      (part : AppliedOf AreFirstRows g input (written a.output) (written b.output) a.archive b.archive)
      × ServesAll 1 part.rows part.served a b

  -- the first rows were, and then the call ended early
  abbrev pub EndedInTurn : RefusalKind → Option (List ℕ) → Moment g W F → Moment g W F → Type 0
  EndedInTurn kind input a b = (part : Ended g kind input (written a.output) (written b.output) a.archive b.archive)
      × ServesUpTo part.rows part.served a b.faults
