-- How texts are printed for whoever keeps the archive: a rule of our own.
use Rattle.std.specs.Prelude.{ℕ, Bool, ◌||◌, ◌&&◌, nat_lt, nat_le, if◌then◌else◌, List, map, chars, encode_utf8_all}

-- control characters (The Unicode Standard, section 23.1), and those that turn the direction of a text (section 23.2)
unfoldable pub is_hidden : ℕ → Bool
is_hidden c = nat_lt c 32 || (nat_le 127 c && nat_lt c 160) || (nat_le 0x202A c && nat_le c 0x202E)
    || (nat_le 0x2066 c && nat_le c 0x2069)

-- such a character is a space
abbrev pub shown_character : ℕ → ℕ
shown_character c = if is_hidden c then 32 else c

abbrev pub shown : List ℕ → List ℕ
shown text = encode_utf8_all (map shown_character (chars text))
