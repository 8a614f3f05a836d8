use Rattle.std.proofs.Common.{ℕ, ◌≡◌, take}
use Rattle.std.specs.Prelude.{◌==◌}
use Rattle.std.specs.List.{list_any}
use Rattle.std.specs.BTreeSet as set
use Rattle.std.specs.Ordering.{nat_cmp}
use Rattle.staging.proofs.finding.distinct.Given as goal

abbrev pub invariant-numbers : goal.invariant-numbers
invariant-numbers l = (n : ℕ) → set.contains nat_cmp l.all n ≡ list_any (λ k. k == n) (take l.number-index l.numbers)
