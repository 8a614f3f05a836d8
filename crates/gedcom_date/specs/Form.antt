-- What a value says, without the memory that holds it.
use Rattle.std.specs.Prelude.{ℕ, List}
use Rattle.calendar_days.specs.Told.{Told}
use Rattle.gedcom_date.specs.declared.approximation.Approximation.{Approximation}

-- the forms of a value: dates, and texts as their bytes
pub data Form : Type 0 where
  OnDate : Told → Form
  NearDate : Approximation → Told → Form
  BeforeDate : Told → Form
  AfterDate : Told → Form
  BetweenDates : Told → Told → Form
  SinceDate : Told → Form
  UntilDate : Told → Form
  FromToDates : Told → Told → Form
  InterpretedDate : Told → List ℕ → Form
  PhraseAlone : List ℕ → Form
  VerbatimText : List ℕ → Form
