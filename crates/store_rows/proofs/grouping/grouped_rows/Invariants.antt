use Rattle.std.proofs.Common.{ℕ, ◌≡◌}
use Rattle.store_rows.specs.Grouped.{group_at, items_at}
use Rattle.store_rows.proofs.grouping.grouped_rows.Given as goal

abbrev pub invariant-rows : goal.invariant-rows
invariant-rows l = (n : ℕ) → group_at l.groups n ≡ items_at n l.yielded
