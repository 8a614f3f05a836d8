use Rattle.std.proofs.Common.{ℕ, List, ◌≡◌, ◌++◌}
use Rattle.std.specs.List.{flat_map}
use Rattle.stored_lines.specs.Line.{Label}
use Rattle.store_rows.specs.Grouped.{group_at, items_at}
use Rattle.store_rows.proofs.grouping.with_packs.Given as goal

abbrev pub invariant-packs : goal.invariant-packs
invariant-packs l = (n : ℕ) → group_at l.all n
    ≡ group_at l.fn.groups n ++ flat_map (λ (ls : List (ℕ × Label)). ls) (items_at n l.yielded)
