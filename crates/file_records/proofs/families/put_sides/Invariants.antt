use Rattle.std.proofs.Common.{◌≡◌, ◌++◌, map, take, drop}
use Rattle.file_records.specs.Carried.{line_kept}
use Rattle.file_records.proofs.families.put_sides.Given as goal

abbrev pub invariant-loop-member : goal.invariant-loop-member
invariant-loop-member g l = l.members ≡ map (g.M.Member.told l.roots (line_kept l.lines)) (take l.member-index
    l.fn.members) ++ drop l.member-index l.fn.members
