use Rattle.std.proofs.Common.{◌≡◌, take, map}
use Rattle.stored_lines.specs.Tree.{relabel}
use Rattle.stored_lines.specs.Line.{label_of}
use Rattle.stored_lines.proofs.branch.+branch_of.Given as goal

abbrev pub invariant-children : goal.invariant-children
invariant-children l = l.children.items ≡ map (relabel label_of) (take l.child-index l.child-items)
