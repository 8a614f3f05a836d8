-- What a record owns, and the families of a person, as lists in any order of the owners.
use Rattle.std.specs.Prelude.{ℕ, ◌≡◌, ◌==◌, List, map}
use Rattle.std.specs.List.{filter}
use Rattle.std.specs.List.Sorted.{IsNonDecreasingBy}
use Rattle.record_shapes.specs.Shapes.{Side}
use Rattle.gedcom_export.specs.declared.membership.Membership.{Membership}
use Rattle.gedcom_export.specs.declared.index_owned.Owned.{Owned}

-- the numbers of what a record owns
abbrev pub numbers_by : ℕ → List Owned → List ℕ
numbers_by n os = map (λ (o : Owned). o.number) (filter (λ (o : Owned). o.owner == n) os)

-- the sides of a person
abbrev pub sides_by : ℕ → List Membership → List Side
sides_by n ms = map (λ (x : Membership). x.side) (filter (λ (x : Membership). x.person == n) ms)

-- the same items, whose owners ascend; those of one owner are in the order that they had
pub record IsArrangedBy {X : Type 0} (owner : X → ℕ) (before after : List X) : Type 0 where
  pub ascends : IsNonDecreasingBy owner after
  pub same : (n : ℕ) → filter (λ x. owner x == n) after ≡ filter (λ x. owner x == n) before
