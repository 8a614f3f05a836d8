-- What a text said by the grammar before it had French Republican dates. Tables of that time hold dates as it
-- spelt them.
use Rattle.std.specs.Prelude.{◌≡◌, ◌⊎◌, ℕ, List}
use Rattle.calendar_days.specs.declared.calendar.Calendar.{Calendar}
use Rattle.calendar_days.specs.declared.calendar.Calendar.TheVariants.{Gregorian, Julian, Republican}
use Rattle.gedcom_date.specs.Form.{
  Form,
  OnDate,
  NearDate,
  BeforeDate,
  AfterDate,
  BetweenDates,
  SinceDate,
  UntilDate,
  FromToDates,
  InterpretedDate,
  PhraseAlone,
  VerbatimText,
}
use Rattle.gedcom_date.specs.Grammar.{Fits}

-- a calendar that it had
abbrev pub IsEarlier : Calendar → Type 0
IsEarlier Gregorian = Unit {0}
IsEarlier Julian = Unit {0}
IsEarlier Republican = ⊥

-- a form that it had: its dates are of these calendars, and it is no kept text
abbrev pub IsEarlierForm : Form → Type 0
IsEarlierForm (OnDate d) = IsEarlier d.calendar
IsEarlierForm (NearDate how d) = IsEarlier d.calendar
IsEarlierForm (BeforeDate d) = IsEarlier d.calendar
IsEarlierForm (AfterDate d) = IsEarlier d.calendar
IsEarlierForm (BetweenDates d e) = IsEarlier d.calendar × IsEarlier e.calendar
IsEarlierForm (SinceDate d) = IsEarlier d.calendar
IsEarlierForm (UntilDate d) = IsEarlier d.calendar
IsEarlierForm (FromToDates d e) = IsEarlier d.calendar × IsEarlier e.calendar
IsEarlierForm (InterpretedDate d phrase) = IsEarlier d.calendar
IsEarlierForm (PhraseAlone phrase) = Unit {0}
IsEarlierForm (VerbatimText t) = ⊥

-- the text fitted the form
abbrev pub FitsBefore : List ℕ → Form → Type 0
FitsBefore text form = Fits text form × IsEarlierForm form

-- the text fitted no form
abbrev pub FittedNone : List ℕ → Type 0
FittedNone text = (form : Form) → ¬ (FitsBefore text form)

-- the value of a text: the form that it fitted, or the text itself where it fitted none
abbrev pub SaysBefore : List ℕ → Form → Type 0
SaysBefore text form = FitsBefore text form ⊎ ((form ≡ VerbatimText text) × FittedNone text)
