-- What a text says of a time: GEDCOM 5.5.1, chapter 2, DATE_VALUE.
use Rattle.std.specs.Prelude.{
  ◌≡◌,
  ◌⊎◌,
  ℕ,
  ◌+◌,
  ◌-◌,
  ◌*◌,
  ◌%◌,
  ◌≤◌,
  true,
  List,
  [],
  ◌∷◌,
  ◌++◌,
  length,
  slice_get,
  Some,
  codes,
}
use Rattle.std.specs.Int.{IsInRange}
use Rattle.std.specs.Char.{is_ascii_digit}
use Rattle.std.specs.List.{list_all}
use Rattle.gedcom_date.specs.Words.{words, Without, Reads, is_space}
use Rattle.calendar_days.specs.Told.{Told, Exists}
use Rattle.gedcom_date.specs.Order.{IsOrdered}
use Rattle.gedcom_date.specs.Form.{
  Form,
  OnDate,
  NearDate,
  BeforeDate,
  AfterDate,
  BetweenDates,
  SinceDate,
  UntilDate,
  FromToDates,
  InterpretedDate,
  PhraseAlone,
  VerbatimText,
}
use Rattle.gedcom_date.specs.Spelling.{spelling, approximation_text}
use Rattle.calendar_days.specs.declared.calendar.Calendar.{Calendar}
use Rattle.calendar_days.specs.declared.calendar.Calendar.TheVariants.{Gregorian, Julian, Republican}
use Rattle.calendar_days.specs.declared.calendar.Year.{Year}
use Rattle.calendar_days.specs.declared.calendar.Year.TheVariants.{Single, Double}
use Rattle.calendar_days.specs.declared.calendar.Extent.{Extent}
use Rattle.calendar_days.specs.declared.calendar.Extent.TheVariants.{BeforeChrist, Whole, Month, Day}

-- the number that digits spell, after those that gave so_far
abbrev pub value_from : ℕ → List ℕ → ℕ
value_from so_far [] = so_far
value_from so_far (d ∷ ds) = value_from (10 * so_far + (d - 48)) ds

-- one to most digits spell the number, which is not 0
abbrev pub IsNumber : ℕ → List ℕ → ℕ → Type 0
IsNumber most ds n = (list_all is_ascii_digit ds ≡ true) × IsInRange 1 most (length ds)
    × (n ≡ value_from 0 ds) × (1 ≤ n)

-- 1731, or 1731/32: a year, a stroke, and the last two digits of the next year, which is at most 9999
abbrev pub IsYearWord : List ℕ → Year → Type 0
IsYearWord word (Single n) = IsNumber 4 word n
IsYearWord word (Double n) =
    (front : List ℕ) × (tens : ℕ) × (ones : ℕ) × (word ≡ front ++ 47 ∷ tens ∷ ones ∷ [])
    × IsNumber 4 front n × (n ≤ 9998)
    × (list_all is_ascii_digit (tens ∷ ones ∷ []) ≡ true) × (value_from 0 (tens ∷ ones ∷ []) ≡ (n + 1) % 100)

-- the names of the months of the Gregorian and the Julian year
abbrev pub month_names : List (List ℕ)
month_names =
    codes "JAN" ∷ codes "FEB" ∷ codes "MAR" ∷ codes "APR" ∷ codes "MAY" ∷ codes "JUN"
    ∷ codes "JUL" ∷ codes "AUG" ∷ codes "SEP" ∷ codes "OCT" ∷ codes "NOV" ∷ codes "DEC" ∷ []

-- the names of the months of the French Republican year, the last that of its complementary days
abbrev pub republican_names : List (List ℕ)
republican_names =
    codes "VEND" ∷ codes "BRUM" ∷ codes "FRIM" ∷ codes "NIVO" ∷ codes "PLUV" ∷ codes "VENT" ∷ codes "GERM"
    ∷ codes "FLOR" ∷ codes "PRAI" ∷ codes "MESS" ∷ codes "THER" ∷ codes "FRUC" ∷ codes "COMP" ∷ []

-- the names of the calendar's months
abbrev pub months : Calendar → List (List ℕ)
months Gregorian = month_names
months Julian = month_names
months Republican = republican_names

-- the word names the month m, from 1
abbrev pub IsMonthWord : Calendar → List ℕ → ℕ → Type 0
IsMonthWord c word m = (name : List ℕ) × (1 ≤ m) × (slice_get (months c) (m - 1) ≡ Some name) × Reads word name

-- a year, a month and a year, or a day, a month and a year; after only a year B.C., with a space or without
abbrev pub IsExtentOf : Calendar → List (List ℕ) → Extent → Type 0
IsExtentOf c ws (BeforeChrist n) =
    (year : List ℕ) × (mark : List ℕ) × ((ws ≡ year ∷ mark ∷ []) ⊎ (ws ≡ (year ++ mark) ∷ [])) × IsNumber 4 year n
    × Reads mark (codes "B.C.")
IsExtentOf c ws (Whole year) = (word : List ℕ) × (ws ≡ word ∷ []) × IsYearWord word year
IsExtentOf c ws (Month m year) =
    (month : List ℕ) × (word : List ℕ) × (ws ≡ month ∷ word ∷ []) × IsMonthWord c month m × IsYearWord word year
IsExtentOf c ws (Day d m year) =
    (day : List ℕ) × (month : List ℕ) × (word : List ℕ) × (ws ≡ day ∷ month ∷ word ∷ []) × IsNumber 2 day d
    × IsMonthWord c month m × IsYearWord word year

-- the words begin with the escape of the calendar, and rest follows; the Gregorian one may be left out, and the
-- French Republican one is two words
abbrev pub IsEscape : Calendar → List (List ℕ) → List (List ℕ) → Type 0
IsEscape Gregorian ws rest = (ws ≡ rest) ⊎ ((mark : List ℕ) × (ws ≡ mark ∷ rest) × Reads mark (codes "@#DGREGORIAN@"))
IsEscape Julian ws rest = (mark : List ℕ) × (ws ≡ mark ∷ rest) × Reads mark (codes "@#DJULIAN@")
IsEscape Republican ws rest =
    (mark : List ℕ) × (end : List ℕ) × (ws ≡ mark ∷ end ∷ rest) × Reads mark (codes "@#DFRENCH")
    × Reads end (codes "R@")

-- the words are a date: an escape and how much of the date is known
abbrev pub IsDateOf : List (List ℕ) → Told → Type 0
IsDateOf ws date = (rest : List (List ℕ)) × IsEscape date.calendar ws rest × IsExtentOf date.calendar rest date.extent

-- the words are a keyword and a date
abbrev pub IsAfterWord : List ℕ → List (List ℕ) → Told → Type 0
IsAfterWord keyword ws date = (word : List ℕ) × (rest : List (List ℕ)) × (ws ≡ word ∷ rest) × Reads word keyword
    × IsDateOf rest date

-- the words are a keyword, a date, a second keyword and a date
abbrev pub IsAfterWords : List ℕ → List ℕ → List (List ℕ) → Told → Told → Type 0
IsAfterWords opening joining ws first last =
    (word : List ℕ) × (front : List (List ℕ)) × (mark : List ℕ) × (back : List (List ℕ))
    × (ws ≡ word ∷ (front ++ mark ∷ back))
    × Reads word opening × IsDateOf front first × Reads mark joining × IsDateOf back last

-- the text is front, and from its first ( to a ) that ends it, spaces apart, a phrase in these brackets
pub record IsPhrased (text front phrase : List ℕ) : Type 0 where
  pub after : List ℕ
  pub parts : text ≡ front ++ 40 ∷ phrase ++ 41 ∷ after
  pub first : Without 40 front
  pub spaces : list_all is_space after ≡ true

-- the text has the form, whether its dates exist or not
unfoldable pub IsOfForm : List ℕ → Form → Type 0
IsOfForm text (OnDate d) = IsDateOf (words text) d
IsOfForm text (NearDate how d) = IsAfterWord (approximation_text how) (words text) d
IsOfForm text (BeforeDate d) = IsAfterWord (codes "BEF") (words text) d
IsOfForm text (AfterDate d) = IsAfterWord (codes "AFT") (words text) d
IsOfForm text (BetweenDates d e) = IsAfterWords (codes "BET") (codes "AND") (words text) d e
IsOfForm text (SinceDate d) = IsAfterWord (codes "FROM") (words text) d
IsOfForm text (UntilDate d) = IsAfterWord (codes "TO") (words text) d
IsOfForm text (FromToDates d e) = IsAfterWords (codes "FROM") (codes "TO") (words text) d e
IsOfForm text (InterpretedDate d phrase) = (front : List ℕ) × IsPhrased text front phrase
    × IsAfterWord (codes "INT") (words front) d
IsOfForm text (PhraseAlone phrase) = (front : List ℕ) × IsPhrased text front phrase × (words front ≡ [])
IsOfForm text (VerbatimText t) = ⊥

-- the canonical spelling has at most 1,048,576 bytes, as a text has
unfoldable pub IsShort : Form → Type 0
IsShort form = length (spelling form) ≤ 1048576

-- its dates exist, two of them in order, and a spelling with a phrase is not too long
abbrev pub IsGood : Form → Type 0
IsGood (OnDate d) = Exists d
IsGood (NearDate how d) = Exists d
IsGood (BeforeDate d) = Exists d
IsGood (AfterDate d) = Exists d
IsGood (BetweenDates d e) = Exists d × Exists e × IsOrdered d e
IsGood (SinceDate d) = Exists d
IsGood (UntilDate d) = Exists d
IsGood (FromToDates d e) = Exists d × Exists e × IsOrdered d e
IsGood (InterpretedDate d phrase) = Exists d × IsShort (InterpretedDate d phrase)
IsGood (PhraseAlone phrase) = IsShort (PhraseAlone phrase)
IsGood (VerbatimText t) = Unit {0}

-- the text fits the form
abbrev pub Fits : List ℕ → Form → Type 0
Fits text form = IsOfForm text form × IsGood form

-- the text fits no form
abbrev pub FitsNone : List ℕ → Type 0
FitsNone text = (form : Form) → ¬ (Fits text form)

-- the value of a text: the form that it fits, or the text itself where it fits none
abbrev pub Says : List ℕ → Form → Type 0
Says text form = Fits text form ⊎ ((form ≡ VerbatimText text) × FitsNone text)
