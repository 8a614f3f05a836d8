-- A text in a page (HTML Living Standard, sections 13.1.3 "Text" and 13.1.4 "Character references").
use Rattle.std.specs.Prelude.{
  ℕ,
  Bool,
  ◌||◌,
  ◌&&◌,
  nat_eq,
  nat_lt,
  nat_le,
  if◌then◌else◌,
  List,
  [],
  ◌∷◌,
  codes,
  flat_map,
  chars,
  encode_utf8_all,
}

-- control characters but for TAB and LF (The Unicode Standard, section 23.1), and those that turn the direction of a
-- text (section 23.2)
unfoldable pub is_hidden : ℕ → Bool
is_hidden c = nat_lt c 9 || (nat_le 11 c && nat_lt c 32) || (nat_le 127 c && nat_lt c 160)
    || (nat_le 0x202A c && nat_le c 0x202E) || (nat_le 0x2066 c && nat_le c 0x2069)

-- such a character is a space
abbrev pub shown_character : ℕ → ℕ
shown_character c = if is_hidden c then 32 else c

-- the five characters of markup are character references
unfoldable pub escaped_character : ℕ → List ℕ
escaped_character c = if nat_eq c 38 then codes "&amp;" else if nat_eq c 60 then codes "&lt;"
    else if nat_eq c 62 then codes "&gt;" else if nat_eq c 34 then codes "&quot;"
    else if nat_eq c 39 then codes "&#39;" else shown_character c ∷ []

abbrev pub escaped : List ℕ → List ℕ
escaped text = encode_utf8_all (flat_map escaped_character (chars text))
