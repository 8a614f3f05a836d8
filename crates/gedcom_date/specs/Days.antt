-- The days that a value may mean.
use Rattle.std.specs.Prelude.{ℤ, ◌<ℤ◌, ◌≤ℤ◌}
use Rattle.calendar_days.specs.Told.{Told}
use Rattle.calendar_days.specs.Within.{IsIn}
use Rattle.gedcom_date.specs.Form.{
  Form,
  OnDate,
  NearDate,
  BeforeDate,
  AfterDate,
  BetweenDates,
  SinceDate,
  UntilDate,
  FromToDates,
  InterpretedDate,
  PhraseAlone,
  VerbatimText,
}

-- the day lies between some day of the first date and some day of the last
abbrev pub Lies : Told → Told → ℤ → Type 0
Lies first last n = (a : ℤ) × (b : ℤ) × IsIn first a × IsIn last b × (a ≤ℤ n) × (n ≤ℤ b)

-- the value may mean the day
abbrev pub IsDayOf : Form → ℤ → Type 0
IsDayOf (OnDate date) n = IsIn date n
IsDayOf (NearDate how date) n = IsIn date n
IsDayOf (BeforeDate date) n = (day : ℤ) → IsIn date day → n <ℤ day
IsDayOf (AfterDate date) n = (day : ℤ) → IsIn date day → day <ℤ n
IsDayOf (BetweenDates first last) n = Lies first last n
IsDayOf (SinceDate date) n = (day : ℤ) × IsIn date day × (day ≤ℤ n)
IsDayOf (UntilDate date) n = (day : ℤ) × IsIn date day × (n ≤ℤ day)
IsDayOf (FromToDates first last) n = Lies first last n
IsDayOf (InterpretedDate date phrase) n = IsIn date n
IsDayOf (PhraseAlone text) n = Unit {0}
IsDayOf (VerbatimText text) n = Unit {0}
