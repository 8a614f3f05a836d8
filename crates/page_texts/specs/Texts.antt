-- The text of a page in UTF-8. Its file is in UTF-16 where it begins with the mark of that, else in the set that is
-- given; without one its bytes are the text. Rules of our own.
use Rattle.std.specs.Prelude.{
  ℕ,
  ◌%◌,
  ◌==◌,
  ◌&&◌,
  Bool,
  true,
  false,
  List,
  [],
  ◌∷◌,
  length,
  encode_utf8_all,
  Option,
  Some,
  None,
  if◌then◌else◌,
}
use Rattle.std.specs.Char.Utf16.{has_unpaired_surrogate, utf16_lossy_chars}
use Rattle.character_sets.specs.Sets.{characters, units_of}
use Rattle.character_sets.specs.declared.set.CharacterSet.{CharacterSet}
use Rattle.character_sets.specs.declared.set.CharacterSet.TheVariants.{Utf16Le, Utf16Be}

-- ---- UTF-16
abbrev pub is_wide : CharacterSet → Bool
is_wide Utf16Le = true
is_wide Utf16Be = true
is_wide _ = false

-- a byte that is in no text of UTF-8, so that a page which is this is refused at its first row
abbrev pub no_text : List ℕ
no_text = 255 ∷ []

-- none where a unit is half of a character, and the other half is not beside it
abbrev pub wide_text : List ℕ → List ℕ
wide_text units = if has_unpaired_surrogate units then no_text else encode_utf8_all (utf16_lossy_chars units)

-- none where half a unit is left
abbrev pub unless_odd : CharacterSet → List ℕ → List ℕ
unless_odd set bytes = if length bytes % 2 == 0 then wide_text (units_of set bytes) else no_text

-- ---- a set
abbrev pub text_in : CharacterSet → List ℕ → List ℕ
text_in set bytes = if is_wide set then unless_odd set bytes else encode_utf8_all (characters set (units_of set bytes))

-- the mark of UTF-16, as the set that it says and the bytes after it
abbrev pub by_mark : ℕ → ℕ → List ℕ → Option (CharacterSet × List ℕ)
by_mark a b more = if a == 0xFF && b == 0xFE then Some (Utf16Le, more)
    else if a == 0xFE && b == 0xFF then Some (Utf16Be, more) else None

abbrev pub marked : List ℕ → Option (CharacterSet × List ℕ)
marked (a ∷ b ∷ more) = by_mark a b more
marked _ = None

-- ---- the page
abbrev pub given_text : Option CharacterSet → List ℕ → List ℕ
given_text None bytes = bytes
given_text (Some set) bytes = text_in set bytes

abbrev pub with_mark : Option CharacterSet → List ℕ → Option (CharacterSet × List ℕ) → List ℕ
with_mark set bytes None = given_text set bytes
with_mark set bytes (Some m) = text_in m.0 m.1

unfoldable pub page_text : Option CharacterSet → List ℕ → List ℕ
page_text set bytes = with_mark set bytes (marked bytes)
