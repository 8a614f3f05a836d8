-- Lines of ASCII, which each set has alike.
use Rattle.std.specs.Prelude.{ℕ, ◌==◌, ◌&&◌, Bool, List, length, nat_lt, if◌then◌else◌}
use Rattle.std.specs.List.{list_all}
use Rattle.file_conversion.specs.Conversion.{is_ascii}

-- a line of ASCII that has nothing in front of its value
abbrev pub is_plain : List ℕ → List ℕ → Bool
is_plain carry body = length carry == 0 && list_all is_ascii body

-- the character of a unit of ASCII, U+FFFD for any other
abbrev pub plain_character : ℕ → ℕ
plain_character unit = if nat_lt unit 128 then unit else 0xFFFD
