-- What of units is read otherwise than as it stands: bytes of no character in a file of UTF-8, and marks of ANSEL
-- before what is no letter.
use Rattle.std.specs.Prelude.{
  ℕ,
  ◌+◌,
  ◌-◌,
  ◌==◌,
  ◌&&◌,
  ◌||◌,
  Bool,
  true,
  false,
  not,
  List,
  [],
  ◌∷◌,
  is_some,
  nat_le,
  suc,
  zero,
  if◌then◌else◌,
}
use Rattle.character_sets.specs.declared.utf8.Beginning.{Beginning}
use Rattle.character_sets.specs.declared.utf8.Beginning.TheVariants.{Whole, Partial, Stray}
use Rattle.character_sets.specs.Ansel.{mark}
use Rattle.character_sets.specs.Utf8.{front}

abbrev pub counted : (ℕ → ℕ) → Beginning → ℕ
counted rest (Whole c n) = rest (n - 1)
counted rest Partial = suc (rest 0)
counted rest Stray = suc (rest 0)

-- how many bytes are no part of a character of UTF-8, where the first so many belong to the character before
abbrev pub strays : ℕ → List ℕ → ℕ
strays n [] = 0
strays (suc n) (a ∷ more) = strays n more
strays zero (a ∷ more) = counted (λ n. strays n more) (front (a ∷ more))

abbrev pub is_within : ℕ → ℕ → ℕ → Bool
is_within low high unit = nat_le low unit && nat_le unit high

-- the byte of a letter in ANSEL: A to Z, a to z, and the letters above 7F
abbrev pub is_ansel_letter : ℕ → Bool
is_ansel_letter unit = is_within 0x41 0x5A unit || is_within 0x61 0x7A unit || is_within 0xA1 0xA7 unit
    || is_within 0xAC 0xAE unit || is_within 0xB0 0xB8 unit || unit == 0xBA || is_within 0xBC 0xBD unit || unit == 0xC1
    || unit == 0xC7 || is_within 0xCD 0xCF unit

abbrev pub one_if : Bool → ℕ
one_if true = 1
one_if false = 0

-- how many characters of ANSEL that are no letters have marks, where marks may wait for the first
abbrev pub marked_others : Bool → List ℕ → ℕ
marked_others waiting [] = 0
marked_others waiting (unit ∷ units) = if is_some (mark unit) then marked_others true units
    else one_if (waiting && not (is_ansel_letter unit)) + marked_others false units
