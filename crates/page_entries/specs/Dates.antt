-- The date that a cell means: what it says by the grammar of dates; else a day in numbers, or its months by their
-- English names; else its words. Refused is what is no day, or can be read in several ways.
use Rattle.std.specs.Prelude.{
  ℕ,
  ◌+◌,
  ◌-◌,
  ◌*◌,
  ◌==◌,
  ◌&&◌,
  ◌||◌,
  Bool,
  true,
  false,
  nat_le,
  List,
  [],
  ◌∷◌,
  ◌++◌,
  length,
  filter,
  Option,
  Some,
  None,
  if◌then◌else◌,
}
use Rattle.std.specs.Char.{is_ascii_alphabetic, is_ascii_digit}
use Rattle.std.specs.List.{list_all, slice_split}
use Rattle.std.specs.Str.{is_utf8}
use Rattle.gedcom_date.proofs.Deciding.{some_value}
use Rattle.gedcom_date.specs.Form.{Form, VerbatimText}
use Rattle.commands.specs.Dated as given
use Rattle.commands.specs.Given.{GivenDate}
use Rattle.page_entries.specs.Digits.{are_digits, is_point}
use Rattle.page_entries.specs.Months.{month_word, with_months}
use Rattle.page_entries.specs.declared.dates.DateOrder.{DateOrder}
use Rattle.page_entries.specs.declared.dates.DateOrder.TheVariants.{DayFirst, MonthFirst}
use Rattle.page_entries.specs.declared.dates.PageDate.{PageDate}

-- ---- the grammar
abbrev pub is_form : Form → Bool
is_form (VerbatimText text) = false
is_form _ = true

-- a text is in the grammar of dates
abbrev pub is_said : List ℕ → Bool
is_said text = is_form (some_value text).0

abbrev pub given_of : List ℕ → Option GivenDate
given_of words = given.given_of words

-- ---- parts
-- what stands between the parts of a date
abbrev pub is_mark : ℕ → Bool
is_mark b = b == 32 || b == 47 || b == 46 || b == 45 || b == 44

abbrev pub parts : List ℕ → List (List ℕ)
parts cell = slice_split is_mark cell

abbrev pub marks : List ℕ → List ℕ
marks cell = filter is_mark cell

-- between its numbers: `/`, `.` and `-`
abbrev pub is_between : ℕ → Bool
is_between b = b == 47 || b == 46 || b == 45

-- one or two digits, and their number
abbrev pub is_short : List ℕ → Bool
is_short part = are_digits 1 2 part

abbrev pub small : List ℕ → ℕ
small (b ∷ []) = if is_ascii_digit b then b - 48 else 0
small (a ∷ b ∷ []) = if is_ascii_digit a && is_ascii_digit b then 10 * (a - 48) + (b - 48) else 0
small _ = 0

abbrev pub is_zero : List ℕ → Bool
is_zero part = are_digits 1 1 part && small part == 0

-- three to nine letters
abbrev pub only_letters : List ℕ → Bool
only_letters part = list_all is_ascii_alphabetic part

abbrev pub are_letters : List ℕ → Bool
are_letters part = nat_le 3 (length part) && nat_le (length part) 9 && only_letters part

-- ---- dates
abbrev pub dated : Bool → List ℕ → Option PageDate
dated is_words words = Some (record { given = given_of words; is_words = is_words })

-- what is in the grammar
abbrev pub said_text : List ℕ → Option PageDate
said_text text = if is_said text then dated false text else None

abbrev pub said : List ℕ → Option PageDate
said bytes = if is_utf8 bytes then said_text bytes else None

abbrev pub or_words : List ℕ → Option PageDate → Option PageDate
or_words cell None = dated true cell
or_words cell (Some date) = Some date

-- by the names of months, and else the words
abbrev pub by_words : List ℕ → Option PageDate
by_words cell = or_words cell (said (with_months [] cell))

abbrev pub day_text : List ℕ → ℕ → List ℕ → List ℕ
day_text day month year = day ++ 32 ∷ (month_word month ++ 32 ∷ year)

-- a day that exists
abbrev pub by_day : List ℕ → List ℕ → List ℕ → Option PageDate
by_day day month year =
    if nat_le 1 (small month) && nat_le (small month) 12 then said (day_text day (small month) year) else None

-- two numbers and a year
abbrev pub by_order : Option DateOrder → List ℕ → List ℕ → List ℕ → Option PageDate
by_order (Some DayFirst) a b year = by_day a b year
by_order (Some MonthFirst) a b year = by_day b a year
by_order None a b year = None

-- ---- what a cell looks like
-- `1761-05-05`
abbrev pub is_iso : List ℕ → ℕ → List ℕ → ℕ → List ℕ → Bool
is_iso a m b n c = m == 45 && n == 45 && are_digits 4 4 a && is_short b && is_short c

-- `05/06/1761`
abbrev pub is_numeric : List ℕ → ℕ → List ℕ → ℕ → List ℕ → Bool
is_numeric a m b n c = m == n && is_between m && is_short a && is_short b && are_digits 4 4 c

-- `5/6` and a mark
abbrev pub is_numbers : List ℕ → ℕ → List ℕ → ℕ → Bool
is_numbers a m b n = is_between m && is_between n && is_short a && is_short b

-- `15-Apr`
abbrev pub is_day_month : List ℕ → ℕ → List ℕ → Bool
is_day_month a m b = is_short a && (m == 32 || m == 46 || m == 45) && are_letters b

-- or `Apr.`
abbrev pub is_month_before : List ℕ → ℕ → List ℕ → Bool
is_month_before a m b = is_day_month a m b || (are_letters a && m == 46 && length b == 0)

-- `5/6/61`, `15-Apr-10` and `Apr.-10`
abbrev pub is_doubtful : List ℕ → ℕ → List ℕ → ℕ → List ℕ → Bool
is_doubtful a m b n c = is_short c && (is_numbers a m b n || (n == 45 && is_month_before a m b))

-- ---- by parts
-- `1761.0` is a year, `Apr-10` is doubtful
abbrev pub by_two : List ℕ → List ℕ → List ℕ → List ℕ → Option PageDate
by_two cell a b (m ∷ []) =
    if is_point m && are_digits 4 4 a && is_zero b then said a
    else if m == 45 && are_letters a && is_short b then None
    else by_words cell
by_two cell a b _ = by_words cell

abbrev pub by_three : Option DateOrder → List ℕ → List ℕ → List ℕ → List ℕ → List ℕ → Option PageDate
by_three order cell a b c (m ∷ n ∷ []) =
    if is_iso a m b n c then by_day c b a
    else if is_numeric a m b n c then by_order order a b c
    else if is_doubtful a m b n c then None
    else by_words cell
by_three order cell a b c _ = by_words cell

-- `15 Apr.-10`
abbrev pub by_four : List ℕ → List ℕ → List ℕ → List ℕ → List ℕ → List ℕ → Option PageDate
by_four cell a b c d (m ∷ n ∷ o ∷ []) =
    if is_day_month a m b && n == 46 && length c == 0 && o == 45 && is_short d then None else by_words cell
by_four cell a b c d _ = by_words cell

abbrev pub by_parts : Option DateOrder → List ℕ → List (List ℕ) → List ℕ → Option PageDate
by_parts order cell (a ∷ b ∷ []) ms = by_two cell a b ms
by_parts order cell (a ∷ b ∷ c ∷ []) ms = by_three order cell a b c ms
by_parts order cell (a ∷ b ∷ c ∷ d ∷ []) ms = by_four cell a b c d ms
by_parts order cell _ ms = by_words cell

-- the date that a cell means; none, where it is refused
unfoldable pub date_in : Option DateOrder → List ℕ → Option PageDate
date_in order cell =
    if length cell == 0 then dated false cell
    else if is_said cell then dated false cell
    else by_parts order cell (parts cell) (marks cell)
