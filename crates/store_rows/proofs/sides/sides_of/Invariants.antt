use Rattle.std.proofs.Common.{◌≡◌, ◌++◌, length}
use Rattle.std.specs.List.{flat_map}
use Rattle.store_rows.specs.Sides.{side_lines_in, lines_of_side, NoSides}
use Rattle.store_rows.proofs.sides.sides_of.Given as goal

abbrev pub invariant-sides : goal.invariant-sides
invariant-sides l = record {
  so_far : flat_map lines_of_side l.sides.items ++ side_lines_in l.rest ≡ side_lines_in l.lines;
  none_else : NoSides (side_lines_in l.rest) → NoSides (side_lines_in l.lines);
}

abbrev pub decreases-sides : goal.decreases-sides
decreases-sides l = length l.rest
