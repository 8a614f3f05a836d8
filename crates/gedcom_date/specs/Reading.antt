-- How the parts of a date are read.
use Rattle.std.specs.Prelude.{
  ◌%◌,
  nat_le,
  nat_lt,
  take,
  drop,
  codes,
  length,
  option_map,
  map,
  ℕ,
  ◌+◌,
  ◌-◌,
  ◌*◌,
  Bool,
  ◌&&◌,
  ◌==◌,
  not,
  List,
  [],
  ◌∷◌,
  Option,
  Some,
  None,
  if◌then◌else◌,
}
use Rattle.std.specs.Char.{is_ascii_digit, to_ascii_lowercase}
use Rattle.std.specs.Option.{option_map_or}
use Rattle.std.specs.Str.{bytes_eq}
use Rattle.std.specs.List.{position_or_len, before_first, after_first}
use Rattle.calendar_days.specs.declared.calendar.Calendar.{Calendar}
use Rattle.calendar_days.specs.declared.calendar.Calendar.TheVariants.{Gregorian, Julian, Republican}
use Rattle.calendar_days.specs.declared.calendar.Year.{Year}
use Rattle.calendar_days.specs.declared.calendar.Year.TheVariants.{Single, Double}
use Rattle.calendar_days.specs.declared.calendar.Extent.{Extent}
use Rattle.calendar_days.specs.declared.calendar.Extent.TheVariants.{BeforeChrist, Whole, Month, Day}
use Rattle.calendar_days.specs.Told.{Told}
use Rattle.gedcom_date.specs.Form.{
  Form,
  OnDate,
  NearDate,
  BeforeDate,
  AfterDate,
  BetweenDates,
  SinceDate,
  UntilDate,
  FromToDates,
  InterpretedDate,
  PhraseAlone,
}
use Rattle.gedcom_date.specs.declared.approximation.Approximation.TheVariants.{About, Calculated, Estimated}
use Rattle.gedcom_date.specs.declared.keyword.Keyword.{Keyword}
use Rattle.gedcom_date.specs.declared.keyword.Keyword.TheVariants.{
  Near,
  Before,
  After,
  Between,
  And,
  From,
  To,
  Interpreted,
}

-- the number of four digits, if it is not 0
abbrev pub four : ℕ → ℕ → ℕ → ℕ → Option ℕ
four a b c d =
    let n = 1000 * (a - 48) + 100 * (b - 48) + 10 * (c - 48) + (d - 48) in
    if is_ascii_digit a && is_ascii_digit b && is_ascii_digit c && is_ascii_digit d && not
    (n == 0) then Some n else None

-- the number of one to four digits
abbrev pub number_of : List ℕ → Option ℕ
number_of [] = None
number_of (a ∷ []) = four 48 48 48 a
number_of (a ∷ b ∷ []) = four 48 48 a b
number_of (a ∷ b ∷ c ∷ []) = four 48 a b c
number_of (a ∷ b ∷ c ∷ d ∷ []) = four a b c d
number_of (a ∷ b ∷ c ∷ d ∷ e ∷ more) = None

-- the word is that one, in either case of its letters
abbrev pub reads : List ℕ → List ℕ → Bool
reads word keyword = bytes_eq (map to_ascii_lowercase word) (map to_ascii_lowercase keyword)

-- a double year, of its first year and what stands after the stroke
abbrev pub double_of : Option ℕ → List ℕ → Option Year
double_of (Some n) (a ∷ b ∷ []) =
    if is_ascii_digit a && is_ascii_digit b && nat_le n 9998 && (10 * (a - 48) + (b - 48) == (n + 1) % 100) then Some
    (Double n) else None
double_of (Some n) [] = None
double_of (Some n) (a ∷ []) = None
double_of (Some n) (a ∷ b ∷ c ∷ more) = None
double_of None back = None

-- a year or a double year
unfoldable pub year_of : List ℕ → Option Year
year_of w =
    if position_or_len (λ b. b == 47) w == length w then option_map Single (number_of w)
    else double_of (number_of (before_first (λ b. b == 47) w)) (after_first (λ b. b == 47) w)

-- the number of a month from JAN to JUN
unfoldable pub early_month : List ℕ → Option ℕ
early_month w =
    if reads w (codes "JAN") then Some 1
    else if reads w (codes "FEB") then Some 2
    else if reads w (codes "MAR") then Some 3
    else if reads w (codes "APR") then Some 4
    else if reads w (codes "MAY") then Some 5
    else if reads w (codes "JUN") then Some 6
    else None

-- the number of a month from JUL to DEC
unfoldable pub late_month : List ℕ → Option ℕ
late_month w =
    if reads w (codes "JUL") then Some 7
    else if reads w (codes "AUG") then Some 8
    else if reads w (codes "SEP") then Some 9
    else if reads w (codes "OCT") then Some 10
    else if reads w (codes "NOV") then Some 11
    else if reads w (codes "DEC") then Some 12
    else None

-- the number of a month from VEND to GERM
unfoldable pub early_republican : List ℕ → Option ℕ
early_republican w =
    if reads w (codes "VEND") then Some 1
    else if reads w (codes "BRUM") then Some 2
    else if reads w (codes "FRIM") then Some 3
    else if reads w (codes "NIVO") then Some 4
    else if reads w (codes "PLUV") then Some 5
    else if reads w (codes "VENT") then Some 6
    else if reads w (codes "GERM") then Some 7
    else None

-- the number of a month from FLOR to COMP
unfoldable pub late_republican : List ℕ → Option ℕ
late_republican w =
    if reads w (codes "FLOR") then Some 8
    else if reads w (codes "PRAI") then Some 9
    else if reads w (codes "MESS") then Some 10
    else if reads w (codes "THER") then Some 11
    else if reads w (codes "FRUC") then Some 12
    else if reads w (codes "COMP") then Some 13
    else None

-- the number of a month, from 1
unfoldable pub month_of : Calendar → List ℕ → Option ℕ
month_of Gregorian w = option_map_or Some (early_month w) (late_month w)
month_of Julian w = option_map_or Some (early_month w) (late_month w)
month_of Republican w = option_map_or Some (early_republican w) (late_republican w)

-- the day of a month: one or two digits
unfoldable pub day_of : List ℕ → Option ℕ
day_of w = if nat_le (length w) 2 then number_of w else None

infixl 10 ◌>>=◌
abbrev pub ◌>>=◌ : {A B : Type 0} → Option A → (A → Option B) → Option B
(Some x) >>= f = f x
None >>= f = None

-- a month and a year
abbrev pub month_year : Calendar → List ℕ → List ℕ → Option Extent
month_year c m y = month_of c m >>= λ k. year_of y >>= λ year. Some (Month k year)

-- a day, a month and a year
abbrev pub day_month_year : Calendar → List ℕ → List ℕ → List ℕ → Option Extent
day_month_year c d m y = day_of d >>= λ j. month_of c m >>= λ k. year_of y >>= λ year. Some (Day j k year)

-- the year n of n B.C. in one word: what stands before the mark, which ends the word
unfoldable pub joined_before_christ : List ℕ → Option ℕ
joined_before_christ w =
    if nat_lt 4 (length w) && reads (drop (length w - 4) w) (codes "B.C.") then number_of
    (take (length w - 4) w) else None

-- what one word tells: a year, or a year and B.C.
abbrev pub whole_of : List ℕ → Option Extent
whole_of w = option_map_or (λ n. Some (BeforeChrist n)) (joined_before_christ w) (option_map Whole (year_of w))

-- what the words after the escape tell
unfoldable pub extent_of : Calendar → List (List ℕ) → Option Extent
extent_of c [] = None
extent_of c (y ∷ []) = whole_of y
extent_of c (a ∷ b ∷ []) = if reads b (codes "B.C.") then option_map BeforeChrist (number_of a) else month_year c a b
extent_of c (d ∷ m ∷ y ∷ []) = day_month_year c d m y
extent_of c (w ∷ x ∷ y ∷ z ∷ more) = None

-- the French Republican calendar, and what follows the two words of its escape; else the Gregorian one
unfoldable pub republican_of : List (List ℕ) → Calendar × List (List ℕ)
republican_of [] = (Gregorian, [])
republican_of (w ∷ []) = (Gregorian, w ∷ [])
republican_of (w ∷ x ∷ ws) =
    if reads w (codes "@#DFRENCH") && reads x (codes "R@") then (Republican, ws) else (Gregorian, w ∷ x ∷ ws)

-- the calendar of the words, and what follows its escape
unfoldable pub escape_of : List (List ℕ) → Calendar × List (List ℕ)
escape_of [] = (Gregorian, [])
escape_of (w ∷ ws) =
    if reads w (codes "@#DGREGORIAN@") then (Gregorian, ws)
    else if reads w (codes "@#DJULIAN@") then (Julian, ws)
    else republican_of (w ∷ ws)

-- the date that the words tell
unfoldable pub told_of : List (List ℕ) → Option Told
told_of ws = option_map (λ e. record { calendar = (escape_of ws).0; extent = e })
    (extent_of (escape_of ws).0 (escape_of ws).1)

-- the keyword that a word is, in either case of its letters
unfoldable pub keyword_of : List ℕ → Option Keyword
keyword_of w =
    if reads w (codes "ABT") then Some (Near About)
    else if reads w (codes "CAL") then Some (Near Calculated)
    else if reads w (codes "EST") then Some (Near Estimated)
    else if reads w (codes "BEF") then Some Before
    else if reads w (codes "AFT") then Some After
    else if reads w (codes "BET") then Some Between
    else if reads w (codes "AND") then Some And
    else if reads w (codes "FROM") then Some From
    else if reads w (codes "TO") then Some To
    else if reads w (codes "INT") then Some Interpreted
    else None

-- the word is AND
abbrev pub is_and : List ℕ → Bool
is_and w = reads w (codes "AND")

-- the word is TO
abbrev pub is_to : List ℕ → Bool
is_to w = reads w (codes "TO")

-- words before a place, and words after it
abbrev pub Halves : Type 0
Halves = List (List ℕ) × List (List ℕ)

-- one more word before the place
abbrev pub onto_front : List ℕ → Halves → Halves
onto_front w halves = (w ∷ halves.0, halves.1)

-- the words before the first that passes, and those after it
abbrev pub parted : (List ℕ → Bool) → List (List ℕ) → Option Halves
parted p [] = None
parted p (w ∷ ws) = if p w then Some ([], ws) else option_map (onto_front w) (parted p ws)

-- two dates, of the words before and after
abbrev pub two_dates : (Told → Told → Form) → Option Halves → Option Form
two_dates form None = None
two_dates form (Some parts) = told_of parts.0 >>= λ d. told_of parts.1 >>= λ e. Some (form d e)

-- what follows FROM: a date, or two dates parted by TO
abbrev pub from_form : Option Halves → List (List ℕ) → Option Form
from_form None ws = option_map SinceDate (told_of ws)
from_form (Some parts) ws = two_dates FromToDates (Some parts)

-- the form of the words after a keyword
unfoldable pub keyword_form : Keyword → List (List ℕ) → Option Form
keyword_form (Near how) ws = option_map (NearDate how) (told_of ws)
keyword_form Before ws = option_map BeforeDate (told_of ws)
keyword_form After ws = option_map AfterDate (told_of ws)
keyword_form Between ws = two_dates BetweenDates (parted is_and ws)
keyword_form And ws = None
keyword_form From ws = from_form (parted is_to ws) ws
keyword_form To ws = option_map UntilDate (told_of ws)
keyword_form Interpreted ws = None

-- the form of words: a keyword and what follows it, or a date
unfoldable pub word_form : List (List ℕ) → Option Form
word_form [] = None
word_form (w ∷ ws) = option_map_or (λ k. keyword_form k ws) (keyword_of w) (option_map OnDate (told_of (w ∷ ws)))

-- the form of a phrase and the words before it: none, or INT and a date
unfoldable pub phrase_form : List (List ℕ) → List ℕ → Option Form
phrase_form [] phrase = Some (PhraseAlone phrase)
phrase_form (w ∷ ws) phrase = if reads w (codes "INT") then option_map (λ d. InterpretedDate d phrase)
    (told_of ws) else None
