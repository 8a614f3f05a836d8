-- The texts of places: rules of our own.
use Rattle.std.specs.Prelude.{
  ℕ,
  ◌≡◌,
  ◌≤◌,
  ◌==◌,
  ◌&&◌,
  nat_lt,
  nat_le,
  Bool,
  List,
  [],
  ◌∷◌,
  ◌++◌,
  length,
  map,
  codes,
  if◌then◌else◌,
}
use Rattle.std.specs.List.{list_any, slice_split}

-- names with comma and space between them
abbrev pub joined : List (List ℕ) → List ℕ
joined [] = []
joined (name ∷ []) = name
joined (name ∷ (above ∷ names)) = name ++ (codes ", " ++ joined (above ∷ names))

-- without the spaces in front; without those at both ends
abbrev pub from_word : List ℕ → List ℕ
from_word [] = []
from_word (b ∷ bs) = if b == 32 then from_word bs else b ∷ bs

abbrev pub backwards : List ℕ → List ℕ
backwards [] = []
backwards (b ∷ bs) = backwards bs ++ (b ∷ [])

abbrev pub trimmed : List ℕ → List ℕ
trimmed t = backwards (from_word (backwards (from_word t)))

-- the parts of a text between commas
abbrev pub parts : List ℕ → List (List ℕ)
parts t = slice_split (λ b. b == 44) t

-- the text made normal: its parts, freed of spaces at the ends and joined again
unfoldable pub normal : List ℕ → List ℕ
normal t = joined (map trimmed (parts t))

-- a text that is normal as it is
abbrev pub IsNormal : List ℕ → Type 0
IsNormal t = normal t ≡ t

-- at most 32 parts and 4,096 bytes
abbrev pub IsWithinLimits : List ℕ → Type 0
IsWithinLimits path = (length (parts path) ≤ 32) × (length path ≤ 4096)

-- the same as a test
unfoldable pub is_within_limits : List ℕ → Bool
is_within_limits path = nat_le (length (parts path)) 32 && nat_le (length path) 4096

-- a part that is not empty, freed of spaces at the ends
unfoldable pub has_part : List ℕ → Bool
has_part path = list_any (λ part. nat_lt 0 (length (trimmed part))) (parts path)
