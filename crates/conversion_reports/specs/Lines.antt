-- The lines of a file as they are written in UTF-8, and what is counted of them.
use Rattle.std.specs.Prelude.{
  ◌≡◌,
  ℕ,
  ◌+◌,
  ◌-◌,
  ◌^◌,
  ◌≤◌,
  ◌==◌,
  ◌&&◌,
  Bool,
  true,
  false,
  not,
  List,
  [],
  ◌∷◌,
  ◌++◌,
  encode_utf8_all,
  length,
  map,
  min,
  nat_lt,
  take,
  if◌then◌else◌,
}
use Rattle.std.specs.List.{list_all}
use Rattle.character_sets.specs.declared.set.CharacterSet.{CharacterSet}
use Rattle.character_sets.specs.declared.set.CharacterSet.TheVariants.{Utf8, Ansel}
use Rattle.character_sets.specs.Counts.{marked_others, one_if, strays}
use Rattle.character_sets.specs.Sets.{characters}
use Rattle.character_sets.specs.Lines.{Line, is_blank}
use Rattle.character_sets.specs.Moves.{left_over, moved}
use Rattle.file_conversion.specs.Conversion.{is_ascii, next_number}
use Rattle.conversion_reports.specs.declared.kinds.Counts.{Counts}
use Rattle.conversion_reports.specs.declared.kinds.Kind.{Kind}
use Rattle.conversion_reports.specs.declared.kinds.Kind.TheVariants.{Other, Joined, Stray, Replaced, Marked}

-- ---- lines
-- a line in units of the set of its file; it `joins` where its value begins with units of the line before
pub record LineRead : Type 0 where
  pub number : ℕ
  pub joins : Bool
  pub units : List ℕ

abbrev pub has_units : List ℕ → Bool
has_units [] = false
has_units (u ∷ us) = true

abbrev pub first_body : List Line → List ℕ
first_body [] = []
first_body (l ∷ ls) = l.body

-- lines are counted from 1; from 0 where a line comes after the first that the file had not
abbrev pub shown_number : ℕ → ℕ
shown_number n = if n == 0 then 1 else n

abbrev pub joins_at : List ℕ → List ℕ → Bool
joins_at carry body = has_units carry && not (is_blank body)

-- the lines of a file in a set, from this number on, where the first has these units in front of its value
abbrev pub lines_read : CharacterSet → ℕ → List ℕ → List Line → List LineRead
lines_read set n carry [] = []
lines_read set n carry (l ∷ ls) = record {
  number = shown_number n;
  joins = joins_at carry l.body;
  units = first_body (moved set carry (l ∷ ls));
} ∷ lines_read set (next_number n l.body) (left_over set carry (l ∷ ls)) ls

-- ---- what is counted of a line
-- its characters in UTF-8
abbrev pub line_text : CharacterSet → List ℕ → List ℕ
line_text set units = encode_utf8_all (characters set units)

-- U+FFFD in UTF-8
abbrev pub is_replacement : List ℕ → Bool
is_replacement (a ∷ b ∷ c ∷ more) = a == 0xEF && b == 0xBF && c == 0xBD
is_replacement _ = false

-- how often U+FFFD is in a text
abbrev pub replacements : List ℕ → ℕ
replacements [] = 0
replacements (b ∷ bs) = one_if (is_replacement (b ∷ bs)) + replacements bs

abbrev pub strays_in : CharacterSet → List ℕ → ℕ
strays_in Utf8 units = strays 0 units
strays_in _ units = 0

abbrev pub marked_in : CharacterSet → List ℕ → ℕ
marked_in Ansel units = marked_others false units
marked_in _ units = 0

-- it has other characters than those of ASCII
abbrev pub has_others : CharacterSet → List ℕ → Bool
has_others set units = not (list_all is_ascii (line_text set units))

-- how often a kind is in a line
abbrev pub measure : Kind → CharacterSet → Bool → List ℕ → ℕ
measure Other set joins units = one_if (has_others set units)
measure Joined set joins units = one_if joins
measure Stray set joins units = strays_in set units
measure Replaced set joins units = replacements (line_text set units)
measure Marked set joins units = marked_in set units

-- how often each kind is in a line
abbrev pub counts_of : CharacterSet → Bool → List ℕ → Counts
counts_of set joins units = record {
  other = measure Other set joins units;
  joined = measure Joined set joins units;
  stray = measure Stray set joins units;
  replaced = measure Replaced set joins units;
  marked = measure Marked set joins units;
}

-- ---- what is counted of lines
-- the number of each line, and how often a kind is in it
abbrev pub marks : Kind → CharacterSet → List LineRead → List (ℕ × ℕ)
marks kind set ls = map (λ (l : LineRead). (l.number, measure kind set l.joins l.units)) ls

abbrev pub total : List (ℕ × ℕ) → ℕ
total [] = 0
total (m ∷ ms) = m.1 + total ms

-- the numbers of the lines that have it
abbrev pub places : List (ℕ × ℕ) → List ℕ
places [] = []
places (m ∷ ms) = if nat_lt 0 m.1 then m.0 ∷ places ms else places ms

-- more is not counted
abbrev pub most_counted : ℕ
most_counted = 2 ^ 64 - 1

abbrev pub count : List (ℕ × ℕ) → ℕ
count ms = min (total ms) most_counted

abbrev pub first_places : List (ℕ × ℕ) → List ℕ
first_places ms = take 5 (places ms)

-- how often a kind is in lines, and which of them have it first
abbrev pub IsTally : Kind → CharacterSet → List LineRead → ℕ → List ℕ → Type 0
IsTally kind set ls often first = (often ≡ count (marks kind set ls)) × (first ≡ first_places (marks kind set ls))

-- ---- by steps
-- the first five lines with one more, which has it so often
abbrev pub with_line : List ℕ → ℕ → ℕ → List ℕ
with_line first n often = if nat_lt 0 often && nat_lt (length first) 5 then first ++ n ∷ [] else first

-- what was counted so far and what the rest has is what all have
pub record Leads (so_far : ℕ) (first : List ℕ) (rest all : List (ℕ × ℕ)) : Type 0 where
  pub bound : so_far ≤ most_counted
  pub counts : min (so_far + total rest) most_counted ≡ count all
  pub few : length first ≤ 5
  pub begins : take 5 (first ++ places rest) ≡ first_places all

-- one more line of this number, which has it so often
abbrev pub IsOneMore : ℕ → List ℕ → ℕ → ℕ → ℕ → List ℕ → Type 0
IsOneMore so_far first n often now next = (now ≡ min (so_far + often) most_counted) × (next ≡ with_line first n often)

-- what was counted of a kind before and after the first of these lines
abbrev pub Goes : Kind → CharacterSet → ℕ → List ℕ → List LineRead → ℕ → List ℕ → List LineRead → Type 0
Goes kind set so_far first ls now next more = (all : List (ℕ × ℕ)) → Leads so_far first (marks kind set ls) all
    → Leads now next (marks kind set more) all
