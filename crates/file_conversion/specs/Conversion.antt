-- The set of a file, and the file in UTF-8.
use Rattle.std.specs.Prelude.{
  ◌≡◌,
  ℕ,
  ◌+◌,
  ◌-◌,
  ◌==◌,
  ◌&&◌,
  ◌||◌,
  Bool,
  false,
  not,
  List,
  [],
  ◌∷◌,
  ◌++◌,
  Option,
  Some,
  None,
  MatchResult,
  Result,
  Ok,
  Err,
  drop,
  encode_utf8_all,
  filter,
  length,
  nat_lt,
  take,
  if◌then◌else◌,
}
use Rattle.std.specs.List.{list_all, flat_map, suffix_len}
use Rattle.character_sets.specs.declared.set.CharacterSet.{CharacterSet}
use Rattle.character_sets.specs.declared.set.CharacterSet.TheVariants.{Utf8, Utf16Le, Utf16Be, CodePage437}
use Rattle.character_sets.specs.CodePages.{is_alike}
use Rattle.character_sets.specs.Sets.{characters, units_of}
use Rattle.character_sets.specs.Utf8.{has_no_stray}
use Rattle.file_conversion.specs.declared.charsets.NamedSet.{NamedSet}
use Rattle.file_conversion.specs.declared.deciding.Reason.{Reason}
use Rattle.file_conversion.specs.declared.deciding.Reason.TheVariants.{Mark, Nul, Asked, Ascii, Whole, Named}
use Rattle.file_conversion.specs.declared.units.LeftOut.{LeftOut}
use Rattle.character_sets.specs.Lines.{Line, is_blank, lines}
use Rattle.character_sets.specs.Moves.{moved}
use Rattle.file_conversion.specs.Charsets.{named_by, said}

-- ---- the units of a file
-- without the marks of UTF-8 at the beginning
abbrev pub past_utf8_marks : List ℕ → List ℕ
past_utf8_marks (a ∷ b ∷ c ∷ more) =
    if a == 0xEF && b == 0xBB && c == 0xBF then past_utf8_marks more else a ∷ b ∷ c ∷ more
past_utf8_marks units = units

-- without the marks of UTF-16 at the beginning
abbrev pub past_wide_marks : List ℕ → List ℕ
past_wide_marks [] = []
past_wide_marks (unit ∷ units) = if unit == 0xFEFF then past_wide_marks units else unit ∷ units

abbrev pub past_marks : CharacterSet → List ℕ → List ℕ
past_marks Utf16Le units = past_wide_marks units
past_marks Utf16Be units = past_wide_marks units
past_marks _ units = past_utf8_marks units

-- U+0000 and Ctrl-Z
abbrev pub is_filling : ℕ → Bool
is_filling unit = unit == 0 || unit == 26

-- these, and spaces, tabs and line ends
abbrev pub is_at_end : ℕ → Bool
is_at_end unit = is_filling unit || unit == 9 || unit == 10 || unit == 13 || unit == 32

abbrev pub is_kept : ℕ → Bool
is_kept unit = not (is_filling unit)

-- without U+0000 and Ctrl-Z at the end
abbrev pub without_filling : List ℕ → List ℕ
without_filling units =
    let n = length units - suffix_len is_at_end units in take n units ++ filter is_kept (drop n units)

-- how many units of marks and how many of U+0000 and Ctrl-Z are left out of a file
abbrev pub left_out : CharacterSet → List ℕ → LeftOut
left_out set bytes =
    let all = units_of set bytes in
    let rest = past_marks set all in
    record { marks = length all - length rest; filling = length rest - length (without_filling rest) }

-- what the lines of a file in a set are made of
unfoldable pub file_units : CharacterSet → List ℕ → List ℕ
file_units set bytes = without_filling (past_marks set (units_of set bytes))

-- ---- the set
-- UTF-16, by its mark or by a NUL as one of the first two bytes
abbrev pub wide_set : List ℕ → Option CharacterSet
wide_set (a ∷ b ∷ more) = if (a == 0xFF && b == 0xFE) || (not (a == 0) && b == 0) then Some Utf16Le
    else if (a == 0xFE && b == 0xFF) || (a == 0 && not (b == 0)) then Some Utf16Be else None
wide_set _ = None

abbrev pub has_utf8_mark : List ℕ → Bool
has_utf8_mark (a ∷ b ∷ c ∷ more) = a == 0xEF && b == 0xBB && c == 0xBF
has_utf8_mark _ = false

abbrev pub is_ascii : ℕ → Bool
is_ascii unit = nat_lt unit 128

-- each byte of lines belongs to a character, where the first has these units in front of its value
abbrev pub are_whole : List ℕ → List Line → Bool
are_whole carry ls = list_all (λ l. has_no_stray 0 l.body) (moved Utf8 carry ls)

-- each byte belongs to a character, also those of a character that a line was cut in
abbrev pub is_utf8 : List ℕ → Bool
is_utf8 units = are_whole [] (lines units)

-- the number of the line after this one
abbrev pub next_number : ℕ → List ℕ → ℕ
next_number n body = if is_blank body then n else n + 1

-- the first line in which code pages 437 and 850 differ
abbrev pub first_unlike : ℕ → List Line → Option ℕ
first_unlike n [] = None
first_unlike n (l ∷ ls) = if list_all is_alike l.body then first_unlike (next_number n l.body) ls else Some n

abbrev pub or_line : CharacterSet → Option ℕ → Result CharacterSet ℕ
or_line set None = Ok set
or_line set (Some n) = Err n

-- code page 437 is not known from 850 by its name
abbrev pub by_page : CharacterSet → List ℕ → Result CharacterSet ℕ
by_page CodePage437 units = or_line CodePage437 (first_unlike 1 (lines units))
by_page set units = Ok set

-- the set that the lines CHAR name, or the number of a line that leaves it open
abbrev pub by_name : Option NamedSet → List ℕ → Result CharacterSet ℕ
by_name None units = Err 1
by_name (Some named) units = elim named.set [ None ↦ Err named.line | Some set ↦ by_page set units ]

abbrev pub by_lines : List ℕ → Result CharacterSet ℕ
by_lines units = if is_utf8 units then Ok Utf8 else by_name (named_by (lines units)) units

abbrev pub by_bytes : List ℕ → Result CharacterSet ℕ
by_bytes bytes = if list_all is_ascii bytes || has_utf8_mark bytes then Ok Utf8 else by_lines (file_units Utf8 bytes)

abbrev pub by_asked : Option CharacterSet → List ℕ → Result CharacterSet ℕ
by_asked (Some set) bytes = Ok set
by_asked None bytes = by_bytes bytes

abbrev pub by_wide : Option CharacterSet → Option CharacterSet → List ℕ → Result CharacterSet ℕ
by_wide (Some set) asked bytes = Ok set
by_wide None asked bytes = by_asked asked bytes

-- the set of a file, where one may be asked for; an error is the number of the line that leaves it open
unfoldable pub set_of_file : Option CharacterSet → List ℕ → Result CharacterSet ℕ
set_of_file asked bytes = by_wide (wide_set bytes) asked bytes

-- ---- what says it
abbrev pub wide_reason : List ℕ → Reason
wide_reason (a ∷ b ∷ more) = if (a == 0xFF && b == 0xFE) || (a == 0xFE && b == 0xFF) then Mark else Nul
wide_reason _ = Nul

abbrev pub reason_of_units : List ℕ → Reason
reason_of_units units = if is_utf8 units then Whole else Named

abbrev pub reason_in : List ℕ → Reason
reason_in bytes = if list_all is_ascii bytes then Ascii else if has_utf8_mark bytes then Mark
    else reason_of_units (file_units Utf8 bytes)

-- what says the set of a file, where one may be asked for and its set is known
abbrev pub reason : Option CharacterSet → List ℕ → Reason
reason asked bytes =
    elim (wide_set bytes) [
      | Some set ↦ wide_reason bytes
      | None ↦ elim asked [ Some set ↦ Asked | None ↦ reason_in bytes ]
    ]

-- the set of a file and what says it, or the number of the line that leaves it open
abbrev pub IsDecided : Result CharacterSet ℕ → Reason → Result (CharacterSet × Reason) ℕ → Type 0
IsDecided set why found = MatchResult found (λ f. (set ≡ Ok f.0) × (f.1 ≡ why)) (λ n. set ≡ Err n)

-- ---- the text
abbrev pub line_characters : CharacterSet → Line → List ℕ
line_characters set l = characters set l.body ++ characters set l.ending

-- the text of lines in UTF-8, where the first has these units in front of its value
abbrev pub text_of_lines : CharacterSet → List ℕ → List Line → List ℕ
text_of_lines set carry ls = encode_utf8_all (flat_map (line_characters set) (moved set carry ls))

abbrev pub text_of_units : CharacterSet → List ℕ → List ℕ
text_of_units set units = text_of_lines set [] (lines units)

-- the file in UTF-8
unfoldable pub text_of_file : CharacterSet → List ℕ → List ℕ
text_of_file set bytes = text_of_units set (said (lines (file_units set bytes)))
