use Rattle.std.proofs.Common.{◌≡◌, take, map}
use Rattle.stored_lines.specs.Tree.{relabel}
use Rattle.stored_lines.specs.Levels.{levels}
use Rattle.stored_lines.specs.Line.{line_of}
use Rattle.stored_lines.proofs.branch.+carried_line_of.Given as goal

abbrev pub invariant-children : goal.invariant-children
invariant-children l = l.children.items ≡ map (relabel line_of) (take l.child-index l.child-items)

abbrev pub decreases-carried_line_of : goal.decreases-carried_line_of
decreases-carried_line_of l = levels l.branch.now
