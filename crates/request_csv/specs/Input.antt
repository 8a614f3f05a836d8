-- The rows of an input, where its bytes are known: as `csv` reads them, without a byte order mark before them.
use Rattle.std.specs.Prelude.{ℕ, List, take, Option, Some, None, option_map}
use Rattle.csv.specs.Reading.{AreRecords, Reached, default_config, strip_bom}
use Rattle.csv.specs.declared.parser.State.{State}
use Rattle.csv.specs.declared.parser.State.TheVariants as state

-- a row, as the bytes of its fields
abbrev pub Row : Type 0
Row = List (List ℕ)

-- one more than the longest row has, that of an `entry` with 100 mentions
abbrev pub kept_fields : ℕ
kept_fields = 210

-- by these a row is refused as it is by all, where it has more
abbrev pub first_fields : Row → Row
first_fields row = take kept_fields row

-- the bytes that are read as rows
abbrev pub row_bytes : Option (List ℕ) → Option (List ℕ)
row_bytes input = option_map strip_bom input

-- these rows are all of them
abbrev pub AreRows : Option (List ℕ) → List Row → Type 0
AreRows None rows = Unit {0}
AreRows (Some bytes) rows = AreRecords default_config state.StartRecord bytes rows

-- these rows are the first of them
abbrev pub AreFirstRows : Option (List ℕ) → List Row → Type 0
AreFirstRows None rows = Unit {0}
AreFirstRows (Some bytes) rows = (s : State) × (left : List ℕ) × Reached default_config state.StartRecord
    bytes rows s left
