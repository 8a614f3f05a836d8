-- The byte of a character in a code page.
use Rattle.std.specs.Prelude.{ℕ, ◌+◌, ◌==◌, ◌<◌, ◌≡◌, List, [], ◌∷◌, nat_lt, suc, if◌then◌else◌}
use Rattle.character_sets.specs.CodePages.{character}

-- the place of a character in a table
abbrev pub place_of : List ℕ → ℕ → ℕ
place_of [] c = 0
place_of (x ∷ xs) c = if x == c then 0 else suc (place_of xs c)

-- ASCII itself, and above it the place in the table
abbrev pub byte_of : List ℕ → ℕ → ℕ
byte_of table c = if nat_lt c 128 then c else 128 + place_of table c

-- each byte that the set has is the byte of its character
abbrev pub IsReadAgain : List ℕ → Type 0
IsReadAgain table = (byte : ℕ) → byte < 256 → (character table byte ≡ 0xFFFD → ⊥)
    → byte_of table (character table byte) ≡ byte
