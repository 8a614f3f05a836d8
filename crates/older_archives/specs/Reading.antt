-- What the code meets that reads the rows of the first version. No clause of a public call names these definitions.
use Rattle.std.specs.Prelude.{ℕ, ◌≡◌, ◌≢◌, ◌==◌, Bool, true, List, map}
use Rattle.std.specs.List.{flat_map, list_any}
use Rattle.stored_lines.specs.Line.{Label}
use Rattle.records.specs.Stored.{stored}
use Rattle.record_shapes.specs.Lists.{EachOf}
use Rattle.older_archives.specs.Anew.{OldChange, anew, change_anew}
use Rattle.older_archives.specs.Old.{IsOld, OldRecord}
use Rattle.older_archives.specs.RecordReading.{WasKeptAsNone}
use Rattle.store_tables.specs.Rows.{SlipRow, SlipSide, lines_in_side}
use Rattle.store_rows.specs.Grouped.{is_recorded}
use Rattle.store_rows.specs.Meaning.{change_lines, side_lines}
use Rattle.store_rows.specs.Sides.{SideLine}
use Rattle.older_archives.specs.Meaning.{IsOldChange, IsShallowOld, IsShallowOldChange, old_change_lines, old_lines}
use Rattle.older_archives.specs.Renewing.{IsAnewOf, RecordAnew, SlipAnew}

-- each of these records is read anew from the lines of its number, and each number with a record is among them
pub record AreRecordsAnew (closed : ℕ → Bool) (lines : ℕ → List (ℕ × Label)) (rows : List (ℕ × ℕ))
    (found : List RecordAnew) : Type 0 where
  pub each : EachOf (λ (r : RecordAnew). IsAnewOf (lines r.number) r.anew) found
  pub all : (n : ℕ) → is_recorded closed rows n ≡ true → list_any (λ (r : RecordAnew). r.number == n) found ≡ true

-- a number with a record has lines that no record of that time was kept as
abbrev pub LacksOldRecord : (ℕ → Bool) → List (ℕ × ℕ) → (ℕ → List (ℕ × Label)) → Type 0
LacksOldRecord closed rows lines = (n : ℕ) × (is_recorded closed rows n ≡ true) × WasKeptAsNone (lines n)

-- ---- slips
-- a side of that time
pub record OldSide : Type 0 where
  pub is_new : Bool
  pub number : ℕ
  pub old : OldRecord

abbrev pub old_side_lines : OldSide → List SideLine
old_side_lines s = side_lines s.is_new s.number (old_lines s.old)

-- the lines that it is kept as today
abbrev pub new_side_lines : OldSide → List SideLine
new_side_lines s = side_lines s.is_new s.number (stored (anew s.old))

abbrev pub WasSide : OldSide → Type 0
WasSide s = IsOld s.old

abbrev pub WasShallowSide : OldSide → Type 0
WasShallowSide s = IsOld s.old × IsShallowOld s.old

-- what a side of that time with these lines is today
abbrev pub IsSideAnewOf : List SideLine → SlipSide → Type 0
IsSideAnewOf lines s = (old : OldSide) → WasSide old → lines ≡ old_side_lines old → lines_in_side s ≡ new_side_lines old

abbrev pub AreSidesAnewOf : List SideLine → List SlipSide → Type 0
AreSidesAnewOf lines sides = (olds : List OldSide) → EachOf WasSide olds → lines ≡ flat_map old_side_lines olds
    → flat_map lines_in_side sides ≡ flat_map new_side_lines olds

-- the same of the changes of a slip
abbrev pub AreChangesAnewOf : List SideLine → List SlipSide → Type 0
AreChangesAnewOf lines sides = (cs : List OldChange) → EachOf IsOldChange cs → lines ≡ flat_map old_change_lines cs
    → flat_map lines_in_side sides ≡ flat_map change_lines (map change_anew cs)

-- lines that are those of no side, of no sides and of no changes of that time
abbrev pub WasNoSide : List SideLine → Type 0
WasNoSide lines = (s : OldSide) → WasShallowSide s → lines ≢ old_side_lines s

abbrev pub WereNoSides : List SideLine → Type 0
WereNoSides lines = (ss : List OldSide) → EachOf WasShallowSide ss → lines ≢ flat_map old_side_lines ss

abbrev pub WereNoChanges : List SideLine → Type 0
WereNoChanges lines = (cs : List OldChange) → EachOf IsOldChange cs → EachOf IsShallowOldChange cs
    → lines ≢ flat_map old_change_lines cs

-- each of these slips is read anew from the lines of its number, and each number with a slip is among them
pub record AreSlipsAnew (lines : ℕ → List SideLine) (rows : List SlipRow) (found : List SlipAnew) : Type 0 where
  pub each : EachOf (λ (s : SlipAnew). AreChangesAnewOf (lines s.number) s.sides) found
  pub all : (n : ℕ) → list_any (λ (s : SlipRow). s.no == n) rows ≡ true
      → list_any (λ (s : SlipAnew). s.number == n) found ≡ true

abbrev pub LacksOldChanges : List SlipRow → (ℕ → List SideLine) → Type 0
LacksOldChanges rows lines = (n : ℕ) × (list_any (λ (s : SlipRow). s.no == n) rows ≡ true) × WereNoChanges (lines n)
