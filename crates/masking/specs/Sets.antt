-- Sets of numbers, by what holds of the numbers in them.
use Rattle.std.specs.Prelude.{ℕ, ◌↔◌, ◌⊎◌, IsTrue}
use Rattle.std.specs.Ordering.{nat_cmp}
use Rattle.std.specs.BTreeSet as set
use Rattle.std.specs.BTreeSet.{BTreeSet}

abbrev pub IsIn : BTreeSet ℕ → ℕ → Type 0
IsIn s n = IsTrue (set.contains nat_cmp s n)

-- the set has the numbers of which P holds, and no others
abbrev pub Has : BTreeSet ℕ → (ℕ → Type 0) → Type 0
Has s P = (n : ℕ) → IsIn s n ↔ P n

-- the numbers of which P holds are added, and no others
abbrev pub Gets : BTreeSet ℕ → BTreeSet ℕ → (ℕ → Type 0) → Type 0
Gets before after P = (n : ℕ) → IsIn after n ↔ (IsIn before n ⊎ P n)
