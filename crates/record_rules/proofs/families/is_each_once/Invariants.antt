use Rattle.std.proofs.Common.{◌≡◌, ◌≤◌, ◌==◌, ℕ, true, drop, length}
use Rattle.std.specs.List.{list_any}
use Rattle.std.specs.Ordering.{nat_cmp}
use Rattle.std.specs.BTreeSet.{contains}
use Rattle.record_rules.specs.Judged.{is_once}
use Rattle.record_rules.proofs.families.is_each_once.Given as goal

abbrev pub invariant-numbers : goal.invariant-numbers
invariant-numbers l = record {
  within : l.left ≤ length l.numbers;
  once : is_once (drop l.left l.numbers) ≡ true;
  behind : (n : ℕ) → contains nat_cmp l.behind n ≡ list_any (λ m. m == n) (drop l.left l.numbers);
}

abbrev pub decreases-numbers : goal.decreases-numbers
decreases-numbers l = l.left
