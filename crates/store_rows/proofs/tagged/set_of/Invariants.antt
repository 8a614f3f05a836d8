use Rattle.std.proofs.Common.{ℕ, ◌≡◌, ◌==◌, take}
use Rattle.std.specs.BTreeSet as set
use Rattle.std.specs.List.{list_any}
use Rattle.std.specs.Ordering.{nat_cmp}
use Rattle.store_rows.proofs.tagged.set_of.Given as goal

abbrev pub invariant-numbers : goal.invariant-numbers
invariant-numbers l = (n : ℕ) → set.contains nat_cmp l.found n ≡ list_any (λ k. k == n) (take l.number-index l.numbers)
