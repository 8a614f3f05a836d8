-- Lists in the order of a number of each.
use Rattle.std.specs.Prelude.{ℕ, ◌≡◌, ◌==◌, List}
use Rattle.std.specs.List.{filter}
use Rattle.std.specs.List.Sorted.{IsNonDecreasingBy}

-- the same items, whose numbers ascend; those of one number are in the order that they had
pub record IsArrangedBy {X : Type 0} (number : X → ℕ) (before after : List X) : Type 0 where
  pub ascends : IsNonDecreasingBy number after
  pub same : (n : ℕ) → filter (λ x. number x == n) after ≡ filter (λ x. number x == n) before
