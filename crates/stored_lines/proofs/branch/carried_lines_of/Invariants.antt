use Rattle.std.proofs.Common.{◌≡◌, take, map}
use Rattle.stored_lines.specs.Tree.{relabel}
use Rattle.stored_lines.specs.Line.{line_of}
use Rattle.stored_lines.proofs.branch.carried_lines_of.Given as goal

abbrev pub invariant-branches : goal.invariant-branches
invariant-branches l = l.carried.items ≡ map (relabel line_of) (take l.branch-index l.branches)
