use Rattle.std.proofs.Common.{length}
use Rattle.store_rows.specs.Sides.{side_lines_in}
use Rattle.older_archives.proofs.Parted.{IsPartly}
use Rattle.older_archives.proofs.sides.parted.Given as goal

abbrev pub invariant-sides : goal.invariant-sides
invariant-sides l = IsPartly (side_lines_in l.lines) (side_lines_in l.rest) l.sides.items

abbrev pub decreases-sides : goal.decreases-sides
decreases-sides l = length l.rest
