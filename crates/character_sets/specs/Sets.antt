-- The units of a file in a set, their characters, and those that belong to what the next line begins with.
use Rattle.std.specs.Prelude.{ℕ, ◌+◌, ◌*◌, Bool, true, false, List, [], ◌∷◌, map, if◌then◌else◌}
use Rattle.std.specs.Char.Utf16.{utf16_lossy_chars}
use Rattle.character_sets.specs.declared.set.CharacterSet.{CharacterSet}
use Rattle.character_sets.specs.declared.set.CharacterSet.TheVariants.{
  Utf8,
  Utf16Le,
  Utf16Be,
  Windows1252,
  CodePage437,
  CodePage850,
  Macintosh,
  Ansel,
}
use Rattle.character_sets.specs.declared.tables.TheConstants.{WINDOWS_1252, CODE_PAGE_437, CODE_PAGE_850, MACINTOSH}
use Rattle.character_sets.specs.CodePages.{character}
use Rattle.character_sets.specs.Ansel.{ansel_characters}
use Rattle.character_sets.specs.Utf8.{utf8_characters}

-- the units of UTF-16 in bytes; the last byte of an odd number is left out
abbrev pub wide_units : Bool → List ℕ → List ℕ
wide_units low_first [] = []
wide_units low_first (a ∷ []) = []
wide_units low_first (a ∷ b ∷ more) = (if low_first then a + 256 * b else 256 * a + b) ∷ wide_units low_first more

-- each byte is a unit, but for UTF-16
abbrev pub units_of : CharacterSet → List ℕ → List ℕ
units_of Utf16Le bytes = wide_units true bytes
units_of Utf16Be bytes = wide_units false bytes
units_of _ bytes = bytes

-- the characters of units in which no character goes beyond the last one
abbrev pub characters : CharacterSet → List ℕ → List ℕ
characters Utf8 units = utf8_characters 0 units
characters Utf16Le units = utf16_lossy_chars units
characters Utf16Be units = utf16_lossy_chars units
characters Windows1252 units = map (character WINDOWS_1252) units
characters CodePage437 units = map (character CODE_PAGE_437) units
characters CodePage850 units = map (character CODE_PAGE_850) units
characters Macintosh units = map (character MACINTOSH) units
characters Ansel units = ansel_characters [] units
