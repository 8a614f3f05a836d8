-- Pages that look like something else: a spreadsheet makes a day of `3-5` and `12.0` of `12`.
use Rattle.std.specs.Prelude.{
  ℕ,
  ◌==◌,
  ◌&&◌,
  ◌||◌,
  Bool,
  false,
  not,
  nat_le,
  nat_lt,
  List,
  [],
  ◌∷◌,
  length,
}
use Rattle.std.specs.Char.{is_ascii_digit}
use Rattle.std.specs.List.{list_all}
use Rattle.page_entries.specs.Dates.{is_between, is_short, marks, only_letters, parts}
use Rattle.page_entries.specs.Digits.{are_digits, whole}

-- a number with `.0` or `,0` after it
abbrev pub is_decimal : List ℕ → Bool
is_decimal cell =
    nat_lt (length (whole cell)) (length cell) && not (length (whole cell) == 0) && list_all is_ascii_digit (whole cell)

-- three letters, or at most so many
abbrev pub are_letters : ℕ → List ℕ → Bool
are_letters most part = nat_le 3 (length part) && nat_le (length part) most && only_letters part

-- `5-Mar` and `5.Sept`
abbrev pub is_month_after : List ℕ → ℕ → List ℕ → Bool
is_month_after a m b = is_short a && (m == 45 || m == 46) && are_letters 4 b

-- `Mar-5`
abbrev pub is_month_before : List ℕ → ℕ → List ℕ → Bool
is_month_before a m b = are_letters 3 a && m == 45 && is_short b

-- `5/3/61` and `5.3.1761`
abbrev pub is_numbers : List ℕ → ℕ → List ℕ → ℕ → List ℕ → Bool
is_numbers a m b n c = is_short a && is_between m && is_short b && is_between n && are_digits 2 4 c

-- `1761-03-05`
abbrev pub is_year_first : List ℕ → ℕ → List ℕ → ℕ → List ℕ → Bool
is_year_first a m b n c = are_digits 4 4 a && m == 45 && are_digits 2 2 b && n == 45 && are_digits 2 2 c

abbrev pub is_day_of_two : List ℕ → List ℕ → List ℕ → Bool
is_day_of_two a b (m ∷ []) = is_month_after a m b || is_month_before a m b
is_day_of_two a b _ = false

abbrev pub is_day_of_three : List ℕ → List ℕ → List ℕ → List ℕ → Bool
is_day_of_three a b c (m ∷ n ∷ []) = is_numbers a m b n c || is_year_first a m b n c
is_day_of_three a b c _ = false

-- a day, by its parts and the marks between them
abbrev pub is_day : List (List ℕ) → List ℕ → Bool
is_day (a ∷ b ∷ []) ms = is_day_of_two a b ms
is_day (a ∷ b ∷ c ∷ []) ms = is_day_of_three a b c ms
is_day _ ms = false

abbrev pub is_doubtful : List ℕ → Bool
is_doubtful cell = is_decimal cell || is_day (parts cell) (marks cell)
