-- ANSEL (ANSI/NISO Z39.47): the marks of a letter stand before it, and here after it.
use Rattle.std.specs.Prelude.{
  ℕ,
  ◌-◌,
  ◌==◌,
  ◌++◌,
  ◌≡◌,
  List,
  [],
  ◌∷◌,
  encode_utf8_all,
  map,
  Option,
  Some,
  None,
  nat_lt,
  slice_index_or,
  if◌then◌else◌,
}
use Rattle.unicode_normalization.specs.Forms.{nfc}
use Rattle.character_sets.specs.CodePages.{character}
use Rattle.character_sets.specs.declared.tables.TheConstants.{ANSEL, ANSEL_MARKS}

abbrev pub if_any : ℕ → Option ℕ
if_any c = if c == 0xFFFD then None else Some c

-- the mark that a byte is
unfoldable pub mark : ℕ → Option ℕ
mark unit = if nat_lt unit 224 then None else if_any (slice_index_or ANSEL_MARKS (unit - 224) 0xFFFD)

-- the character of a byte that is no mark
unfoldable pub ansel_character : ℕ → ℕ
ansel_character unit = character ANSEL unit

-- a character with its marks after it, in the order of the file, composed; without marks it stays as it is
abbrev pub letter : ℕ → List ℕ → List ℕ
letter first [] = first ∷ []
letter first (m ∷ ms) = nfc (first ∷ m ∷ ms)

-- a mark waits for its letter; any other character takes the marks that wait
abbrev pub spelt : List ℕ → ℕ → (List ℕ → List ℕ) → Option ℕ → List ℕ
spelt marks unit rest (Some m) = rest (marks ++ m ∷ [])
spelt marks unit rest None = letter (ansel_character unit) marks ++ rest []

-- the characters of the bytes that come after these marks; U+FFFD stands for a mark that no character follows
abbrev pub ansel_characters : List ℕ → List ℕ → List ℕ
ansel_characters marks [] = map (λ _. 0xFFFD) marks
ansel_characters marks (unit ∷ units) = spelt marks unit (λ ms. ansel_characters ms units) (mark unit)

-- after one more byte the text and the marks that wait are these
pub record Steps (text marks : List ℕ) (unit : ℕ) (next_text next_marks : List ℕ) : Type 0 where
  pub at : (rest : List ℕ) → next_text ++ encode_utf8_all (ansel_characters next_marks rest)
      ≡ text ++ encode_utf8_all (ansel_characters marks (unit ∷ rest))
