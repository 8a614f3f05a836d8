-- The English names of months, whole or cut to three letters or more, as the grammar of dates has them.
use Rattle.std.specs.Prelude.{
  ℕ,
  ◌==◌,
  ◌&&◌,
  nat_le,
  nat_lt,
  List,
  [],
  ◌∷◌,
  ◌++◌,
  length,
  map,
  take,
  codes,
  bytes_eq,
  Bool,
  Option,
  Some,
  None,
  if◌then◌else◌,
}
use Rattle.std.specs.Char.{is_ascii_alphabetic, to_ascii_lowercase}

-- the name begins with the letters, of either case
abbrev pub begins : List ℕ → List ℕ → Bool
begins letters name = nat_le (length letters) (length name)
    && bytes_eq (map to_ascii_lowercase (take (length letters) name)) (map to_ascii_lowercase letters)

unfoldable pub early : List ℕ → Option ℕ
early run =
    if begins run (codes "JANUARY") then Some 1
    else if begins run (codes "FEBRUARY") then Some 2
    else if begins run (codes "MARCH") then Some 3
    else if begins run (codes "APRIL") then Some 4
    else if begins run (codes "MAY") then Some 5
    else if begins run (codes "JUNE") then Some 6
    else None

unfoldable pub late : List ℕ → Option ℕ
late run =
    if begins run (codes "JULY") then Some 7
    else if begins run (codes "AUGUST") then Some 8
    else if begins run (codes "SEPTEMBER") then Some 9
    else if begins run (codes "OCTOBER") then Some 10
    else if begins run (codes "NOVEMBER") then Some 11
    else if begins run (codes "DECEMBER") then Some 12
    else None

abbrev pub or_late : List ℕ → Option ℕ → Option ℕ
or_late run None = late run
or_late run (Some month) = Some month

-- the month whose name begins with the run, of three letters or more
unfoldable pub month_of_run : List ℕ → Option ℕ
month_of_run run = if nat_lt (length run) 3 then None else or_late run (early run)

-- the three letters of a month, by its number
unfoldable pub month_word : ℕ → List ℕ
month_word n =
    if n == 1 then codes "JAN"
    else if n == 2 then codes "FEB"
    else if n == 3 then codes "MAR"
    else if n == 4 then codes "APR"
    else if n == 5 then codes "MAY"
    else if n == 6 then codes "JUN"
    else if n == 7 then codes "JUL"
    else if n == 8 then codes "AUG"
    else if n == 9 then codes "SEP"
    else if n == 10 then codes "OCT"
    else if n == 11 then codes "NOV"
    else codes "DEC"

-- a run of letters at the end of a text
abbrev pub ended : List ℕ → Option ℕ → List ℕ
ended run None = run
ended run (Some month) = month_word month

abbrev pub at_end : List ℕ → List ℕ
at_end run = ended run (month_of_run run)

-- and before a byte, of which a full stop goes with a month
abbrev pub followed : List ℕ → ℕ → Option ℕ → List ℕ
followed run b None = run ++ b ∷ []
followed run b (Some month) = if b == 46 then month_word month else month_word month ++ b ∷ []

abbrev pub before : List ℕ → ℕ → List ℕ
before run b = followed run b (month_of_run run)

-- a text with its months in three letters, where this run of letters is before it
abbrev pub with_months : List ℕ → List ℕ → List ℕ
with_months run [] = at_end run
with_months run (b ∷ more) =
    if is_ascii_alphabetic b then with_months (run ++ b ∷ []) more else before run b ++ with_months [] more
