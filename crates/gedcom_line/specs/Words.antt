-- The characters of a line, by their bytes.
use Rattle.std.specs.Prelude.{ℕ, Bool, ◌||◌, ◌&&◌, ◌==◌, nat_le}
use Rattle.gedcom_line.specs.declared.class.Class.{Class}
use Rattle.gedcom_line.specs.declared.class.Class.TheVariants.{White, Digit, Space, Word}

-- a space or a tab
abbrev pub is_white : ℕ → Bool
is_white b = b == 32 || b == 9

-- one of 0 to 9
abbrev pub is_digit : ℕ → Bool
is_digit b = nat_le 48 b && nat_le b 57

-- a space
abbrev pub is_space : ℕ → Bool
is_space b = b == 32

-- an ASCII letter, a digit or an underscore
abbrev pub is_word : ℕ → Bool
is_word b = (nat_le 48 b && nat_le b 57) || (nat_le 65 b && nat_le b 90) || b == 95 || (nat_le 97 b && nat_le b 122)

-- LF or CR: what ends a line
abbrev pub is_end : ℕ → Bool
is_end b = b == 10 || b == 13

-- an at sign
abbrev pub is_at : ℕ → Bool
is_at b = b == 64

abbrev pub in_class : Class → ℕ → Bool
in_class White b = is_white b
in_class Digit b = is_digit b
in_class Space b = is_space b
in_class Word b = is_word b
