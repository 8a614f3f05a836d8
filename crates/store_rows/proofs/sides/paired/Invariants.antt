use Rattle.std.proofs.Common.{◌≡◌, ◌++◌, length}
use Rattle.std.specs.List.{flat_map}
use Rattle.store_rows.specs.Sides.{sides_of_change, NoPairs}
use Rattle.store_rows.proofs.sides.paired.Given as goal

abbrev pub invariant-sides : goal.invariant-sides
invariant-sides l = record {
  so_far : flat_map sides_of_change l.changes.items ++ l.sides.items ≡ l.fn.sides.items;
  none_else : NoPairs l.sides.items → NoPairs l.fn.sides.items;
}

abbrev pub decreases-sides : goal.decreases-sides
decreases-sides l = length l.sides.items
