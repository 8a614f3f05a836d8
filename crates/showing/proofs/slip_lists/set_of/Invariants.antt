use Rattle.std.proofs.Common.{◌≡◌, ℕ, take}
use Rattle.std.specs.Prelude.{◌==◌}
use Rattle.std.specs.BTreeSet as set
use Rattle.std.specs.List.{list_any}
use Rattle.std.specs.Ordering.{nat_cmp}
use Rattle.showing.proofs.slip_lists.set_of.Given as goal

abbrev pub invariant-each : goal.invariant-each
invariant-each l = (n : ℕ) → set.contains nat_cmp l.found n ≡ list_any (λ k. k == n) (take l.number-index l.numbers)
