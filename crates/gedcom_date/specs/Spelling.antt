-- How a value is written: in upper case, with single spaces, without leading zeros, without an escape
-- for the Gregorian calendar.
use Rattle.std.specs.Prelude.{◌≡◌, ℕ, ◌+◌, ◌/◌, ◌%◌, ◌==◌, if◌then◌else◌, List, [], ◌∷◌, ◌++◌, codes, decimal}
use Rattle.calendar_days.specs.Told.{Told}
use Rattle.gedcom_date.specs.Form.{
  Form,
  OnDate,
  NearDate,
  BeforeDate,
  AfterDate,
  BetweenDates,
  SinceDate,
  UntilDate,
  FromToDates,
  InterpretedDate,
  PhraseAlone,
  VerbatimText,
}
use Rattle.calendar_days.specs.declared.calendar.Calendar.{Calendar}
use Rattle.calendar_days.specs.declared.calendar.Calendar.TheVariants.{Gregorian, Julian, Republican}
use Rattle.calendar_days.specs.declared.calendar.Year.{Year}
use Rattle.calendar_days.specs.declared.calendar.Year.TheVariants.{Single, Double}
use Rattle.calendar_days.specs.declared.calendar.Extent.{Extent}
use Rattle.calendar_days.specs.declared.calendar.Extent.TheVariants.{BeforeChrist, Whole, Month, Day}
use Rattle.gedcom_date.specs.declared.approximation.Approximation.{Approximation}
use Rattle.gedcom_date.specs.declared.approximation.Approximation.TheVariants.{About, Calculated, Estimated}

-- the name of the month m, from 1, of the Gregorian and the Julian year
abbrev pub roman_name : ℕ → List ℕ
roman_name m =
    if m == 1 then codes "JAN"
    else if m == 2 then codes "FEB"
    else if m == 3 then codes "MAR"
    else if m == 4 then codes "APR"
    else if m == 5 then codes "MAY"
    else if m == 6 then codes "JUN"
    else if m == 7 then codes "JUL"
    else if m == 8 then codes "AUG"
    else if m == 9 then codes "SEP"
    else if m == 10 then codes "OCT"
    else if m == 11 then codes "NOV"
    else codes "DEC"

-- the name of the month m, from 1, of the French Republican year
abbrev pub republican_name : ℕ → List ℕ
republican_name m =
    if m == 1 then codes "VEND"
    else if m == 2 then codes "BRUM"
    else if m == 3 then codes "FRIM"
    else if m == 4 then codes "NIVO"
    else if m == 5 then codes "PLUV"
    else if m == 6 then codes "VENT"
    else if m == 7 then codes "GERM"
    else if m == 8 then codes "FLOR"
    else if m == 9 then codes "PRAI"
    else if m == 10 then codes "MESS"
    else if m == 11 then codes "THER"
    else if m == 12 then codes "FRUC"
    else codes "COMP"

-- the name of the month m, from 1, in the calendar
abbrev pub month_name : Calendar → ℕ → List ℕ
month_name Gregorian m = roman_name m
month_name Julian m = roman_name m
month_name Republican m = republican_name m

-- the last two digits of a number
abbrev pub two_digits : ℕ → List ℕ
two_digits n = (48 + n / 10 % 10) ∷ (48 + n % 10) ∷ []

-- 1731, or 1731/32
abbrev pub year_text : Year → List ℕ
year_text (Single n) = decimal n
year_text (Double n) = decimal n ++ 47 ∷ two_digits (n + 1)

-- 44 B.C., a year, a month and a year, or a day, a month and a year
abbrev pub extent_text : Calendar → Extent → List ℕ
extent_text c (BeforeChrist n) = decimal n ++ 32 ∷ codes "B.C."
extent_text c (Whole year) = year_text year
extent_text c (Month m year) = month_name c m ++ 32 ∷ year_text year
extent_text c (Day d m year) = decimal d ++ 32 ∷ month_name c m ++ 32 ∷ year_text year

-- a date after its escape
abbrev pub date_text : Calendar → Extent → List ℕ
date_text Gregorian extent = extent_text Gregorian extent
date_text Julian extent = codes "@#DJULIAN@" ++ 32 ∷ extent_text Julian extent
date_text Republican extent = codes "@#DFRENCH R@" ++ 32 ∷ extent_text Republican extent

-- the same of what a date tells
abbrev pub told_text : Told → List ℕ
told_text date = date_text date.calendar date.extent

-- a keyword and a date
abbrev pub after_text : List ℕ → Told → List ℕ
after_text keyword d = keyword ++ 32 ∷ told_text d

-- a keyword, a date, a second keyword and a date
abbrev pub two_text : List ℕ → List ℕ → Told → Told → List ℕ
two_text opening joining d e = opening ++ 32 ∷ told_text d ++ 32 ∷ joining ++ 32 ∷ told_text e

-- why a date is not sure
abbrev pub approximation_text : Approximation → List ℕ
approximation_text About = codes "ABT"
approximation_text Calculated = codes "CAL"
approximation_text Estimated = codes "EST"

-- a phrase between its brackets
abbrev pub phrase_text : List ℕ → List ℕ
phrase_text phrase = 40 ∷ phrase ++ 41 ∷ []

-- the canonical spelling of each form
unfoldable pub spelling : Form → List ℕ
spelling (OnDate d) = told_text d
spelling (NearDate how d) = after_text (approximation_text how) d
spelling (BeforeDate d) = after_text (codes "BEF") d
spelling (AfterDate d) = after_text (codes "AFT") d
spelling (BetweenDates d e) = two_text (codes "BET") (codes "AND") d e
spelling (SinceDate d) = after_text (codes "FROM") d
spelling (UntilDate d) = after_text (codes "TO") d
spelling (FromToDates d e) = two_text (codes "FROM") (codes "TO") d e
spelling (InterpretedDate d phrase) = after_text (codes "INT") d ++ 32 ∷ phrase_text phrase
spelling (PhraseAlone phrase) = phrase_text phrase
spelling (VerbatimText text) = text

-- the text was put after the old one
abbrev pub Appends : List ℕ → List ℕ → List ℕ → Type 0
Appends old new text = new ≡ old ++ text
