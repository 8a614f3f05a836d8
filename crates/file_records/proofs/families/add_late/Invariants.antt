use Rattle.std.proofs.Common.{◌≡◌, ◌++◌, drop, map}
use Rattle.file_records.specs.Carried.{late_sides, late_told, line_kept, AreFew}
use Rattle.file_records.proofs.families.add_late.Given as goal

abbrev pub invariant-loop-side : goal.invariant-loop-side
invariant-loop-side l = record {
  few : AreFew (drop l.side-index l.sides);
  children : l.children.items
      ++ map (late_told l.roots (line_kept l.lines)) (late_sides (drop l.side-index l.sides))
      ≡ l.fn.children.items ++ map (late_told l.roots (line_kept l.lines)) (late_sides l.sides);
}
