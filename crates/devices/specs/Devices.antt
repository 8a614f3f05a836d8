-- Counts of failures, and what a reader gave and a writer took.
use Rattle.std.specs.Prelude.{ℕ, ◌≡◌, ◌-◌, ◌^◌, ◌<◌, ◌≤◌, ◌⊎◌, List, ◌++◌, take, length, Option}
use Rattle.std.specs.Io.KnownBytes.{Appends, Consumes, IsAtEnd}

-- a count of failures rose: at its last value it counts as risen
abbrev pub Rose : ℕ → ℕ → Type 0
Rose before after = (before < after) ⊎ (after ≡ 2 ^ 64 - 1)

-- the known contents of a writer grew by a beginning of the bytes
abbrev pub AppendsBeginning : Option (List ℕ) → Option (List ℕ) → List ℕ → Type 0
AppendsBeginning old new bytes = (n : ℕ) × (n ≤ length bytes) × Appends old new (take n bytes)

-- one read gave n bytes, which a list of bytes got at its end: none only where none were left
pub record Gave (old new : Option (List ℕ)) (before after : List ℕ) (n : ℕ) : Type 0 where
  pub bytes : List ℕ
  pub count : length bytes ≡ n
  pub lost : Consumes old new bytes
  pub added : after ≡ before ++ bytes
  pub end : n ≡ 0 → IsAtEnd new
