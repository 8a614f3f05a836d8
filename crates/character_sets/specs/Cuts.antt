-- Units at the end of a value that belong to a character which the value after it ends: lines that go on with another
-- one (CONC) were cut at a number of bytes.
use Rattle.std.specs.Prelude.{
  ℕ,
  ◌+◌,
  ◌-◌,
  Bool,
  true,
  false,
  ◌&&◌,
  List,
  [],
  ◌∷◌,
  ◌++◌,
  drop,
  length,
  is_some,
  nat_le,
  nat_lt,
  slice_index_or,
  take,
  if◌then◌else◌,
}
use Rattle.std.specs.Char.Utf16.{is_high_surrogate, is_low_surrogate}
use Rattle.character_sets.specs.declared.set.CharacterSet.{CharacterSet}
use Rattle.character_sets.specs.declared.set.CharacterSet.TheVariants.{
  Utf8,
  Utf16Le,
  Utf16Be,
  Windows1252,
  CodePage437,
  CodePage850,
  Macintosh,
  Ansel,
}
use Rattle.character_sets.specs.declared.utf8.Beginning.{Beginning}
use Rattle.character_sets.specs.declared.utf8.Beginning.TheVariants.{Whole, Partial, Stray}
use Rattle.character_sets.specs.Ansel.{mark}
use Rattle.character_sets.specs.Utf8.{front}

abbrev pub reaches_beyond : Beginning → ℕ → Bool
reaches_beyond (Whole c n) count = nat_lt count n
reaches_beyond Partial count = true
reaches_beyond Stray count = false

-- the last so many bytes are the first of a character that needs more
unfoldable pub goes_on : List ℕ → List ℕ → ℕ → Bool
goes_on value after count = nat_le count (length value)
    && reaches_beyond (front (drop (length value - count) value ++ take 3 after)) count

abbrev pub utf8_cut : List ℕ → List ℕ → ℕ
utf8_cut value [] = 0
utf8_cut value (a ∷ more) = if goes_on value (a ∷ more) 1 then 1 else if goes_on value (a ∷ more) 2 then 2
    else if goes_on value (a ∷ more) 3 then 3 else 0

-- the last unit is the first half of a character, and the second half comes after it
abbrev pub utf16_cut : List ℕ → List ℕ → ℕ
utf16_cut value after = if is_high_surrogate (slice_index_or value (length value - 1) 0)
    && is_low_surrogate (slice_index_or after 0 0) then 1 else 0

-- how many marks of ANSEL are at the end, after so many marks
abbrev pub marks_at_end : ℕ → List ℕ → ℕ
marks_at_end n [] = n
marks_at_end n (unit ∷ units) = marks_at_end (if is_some (mark unit) then n + 1 else 0) units

abbrev pub cut_units : CharacterSet → List ℕ → List ℕ → ℕ
cut_units Utf8 value after = utf8_cut value after
cut_units Utf16Le value after = utf16_cut value after
cut_units Utf16Be value after = utf16_cut value after
cut_units Windows1252 value after = 0
cut_units CodePage437 value after = 0
cut_units CodePage850 value after = 0
cut_units Macintosh value after = 0
cut_units Ansel value after = marks_at_end 0 value
