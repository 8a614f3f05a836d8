-- UTF-8 (RFC 3629), in which a byte that is no part of a character is one of Windows-1252.
use Rattle.std.specs.Prelude.{
  ℕ,
  ◌+◌,
  ◌-◌,
  ◌*◌,
  Bool,
  ◌&&◌,
  true,
  false,
  List,
  [],
  ◌∷◌,
  nat_le,
  nat_lt,
  suc,
  zero,
  length,
  ◌≤◌,
  ◌<◌,
  if◌then◌else◌,
}
use lib.Utf8.{scalar}
use Rattle.character_sets.specs.CodePages.{character}
use Rattle.character_sets.specs.declared.tables.TheConstants.{WINDOWS_1252}
use Rattle.character_sets.specs.declared.utf8.Beginning.{Beginning}
use Rattle.character_sets.specs.declared.utf8.Beginning.TheVariants.{Whole, Partial, Stray}

-- a byte that goes on with a character
abbrev pub is_next : ℕ → Bool
is_next b = nat_le 0x80 b && nat_lt b 0xC0

-- a character of so many bytes, if it is one, and has no shorter form
abbrev pub shortest : ℕ → ℕ → ℕ → Beginning
shortest least c n = if nat_le least c && scalar c then Whole c n else Stray

abbrev pub two : ℕ → List ℕ → Beginning
two a [] = Partial
two a (b ∷ more) = if is_next b then shortest 0x80 ((a - 0xC0) * 64 + (b - 0x80)) 2 else Stray

abbrev pub three : ℕ → List ℕ → Beginning
three a [] = Partial
three a (b ∷ []) = if is_next b then Partial else Stray
three a (b ∷ c ∷ more) = if is_next b && is_next c
    then shortest 0x800 ((a - 0xE0) * 4096 + (b - 0x80) * 64 + (c - 0x80)) 3 else Stray

abbrev pub four : ℕ → List ℕ → Beginning
four a [] = Partial
four a (b ∷ []) = if is_next b then Partial else Stray
four a (b ∷ c ∷ []) = if is_next b && is_next c then Partial else Stray
four a (b ∷ c ∷ d ∷ more) = if is_next b && is_next c && is_next d
    then shortest 0x1_0000 ((a - 0xF0) * 262144 + (b - 0x80) * 4096 + (c - 0x80) * 64 + (d - 0x80)) 4 else Stray

-- what a byte and those after it begin with: a whole character and its number of bytes, the first bytes of one, or a
-- byte of none
abbrev pub led_by : ℕ → List ℕ → Beginning
led_by a more = if nat_lt a 0x80 then Whole a 1 else if nat_lt a 0xC0 then Stray else if nat_lt a 0xE0 then two a more
    else if nat_lt a 0xF0 then three a more else if nat_lt a 0xF8 then four a more else Stray

unfoldable pub front : List ℕ → Beginning
front [] = Partial
front (a ∷ more) = led_by a more

-- a whole character is of the bytes that are there, at least of one
abbrev pub IsWithin : List ℕ → Beginning → Type 0
IsWithin bytes (Whole c n) = (0 < n) × (n ≤ length bytes)
IsWithin bytes Partial = Unit {0}
IsWithin bytes Stray = Unit {0}

-- a character, or one of Windows-1252, and those after it, of which some bytes may belong to it
abbrev pub spelt : ℕ → (ℕ → List ℕ) → Beginning → List ℕ
spelt a rest (Whole c n) = c ∷ rest (n - 1)
spelt a rest Partial = character WINDOWS_1252 a ∷ rest 0
spelt a rest Stray = character WINDOWS_1252 a ∷ rest 0

-- the characters of bytes, of which the first so many belong to the character before
abbrev pub utf8_characters : ℕ → List ℕ → List ℕ
utf8_characters n [] = []
utf8_characters (suc n) (a ∷ more) = utf8_characters n more
utf8_characters zero (a ∷ more) = spelt a (λ n. utf8_characters n more) (front (a ∷ more))

-- a character is there, and so are those after it
abbrev pub is_whole : (ℕ → Bool) → Beginning → Bool
is_whole rest (Whole c n) = rest (n - 1)
is_whole rest Partial = false
is_whole rest Stray = false

-- each byte belongs to a character
abbrev pub has_no_stray : ℕ → List ℕ → Bool
has_no_stray n [] = true
has_no_stray (suc n) (a ∷ more) = has_no_stray n more
has_no_stray zero (a ∷ more) = is_whole (λ n. has_no_stray n more) (front (a ∷ more))
