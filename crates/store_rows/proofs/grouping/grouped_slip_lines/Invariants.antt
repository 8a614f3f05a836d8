use Rattle.std.proofs.Common.{ℕ, ◌≡◌}
use Rattle.store_rows.specs.Grouped.{slip_group_at, items_at}
use Rattle.store_rows.proofs.grouping.grouped_slip_lines.Given as goal

abbrev pub invariant-rows : goal.invariant-rows
invariant-rows l = (n : ℕ) → slip_group_at l.groups n ≡ items_at n l.yielded
