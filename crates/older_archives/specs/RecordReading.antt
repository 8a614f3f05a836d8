-- Records that are read anew from lines of that time.
use Rattle.std.specs.Prelude.{ℕ, ◌≡◌, ◌≢◌, List}
use Rattle.stored_lines.specs.Line.{Label}
use Rattle.record_kinds.specs.declared.record.Record.{Record}
use Rattle.records.specs.Shallow.{IsShallow}
use Rattle.records.specs.Stored.{stored}
use Rattle.older_archives.specs.Anew.{anew}
use Rattle.older_archives.specs.Old.{OldRecord, WasKeptAs}
use Rattle.older_archives.specs.declared.reading.ReadAnew.{ReadAnew}
use Rattle.older_archives.specs.declared.reading.ReadAnew.TheVariants.{Stays, Changes}

-- a record of that time was kept as these lines, and this is what it is today
abbrev pub IsAnewOf : List (ℕ × Label) → Record → Type 0
IsAnewOf lines r = (o : OldRecord) × WasKeptAs lines o × (r ≡ anew o)

-- the lines are those of the record of today too, or others
abbrev pub IsReadAnew : List (ℕ × Label) → ReadAnew → Type 0
IsReadAnew lines (Stays r) = IsAnewOf lines r × (lines ≡ stored r)
IsReadAnew lines (Changes r) = IsAnewOf lines r × (lines ≢ stored r)

-- no record of that time was kept as these lines, and none of today is: none whose carried lines have at most 99
-- levels, as all have
abbrev pub WasKeptAsNone : List (ℕ × Label) → Type 0
WasKeptAsNone lines = (o : OldRecord) → IsShallow o.rest → ¬ (WasKeptAs lines o)

abbrev pub IsKeptAsNone : List (ℕ × Label) → Type 0
IsKeptAsNone lines = (r : Record) → IsShallow r → lines ≢ stored r
