use Rattle.std.proofs.Common.{◌≡◌, take}
use Rattle.stored_lines.proofs.carried.Carried.+copy.Given as goal

abbrev pub invariant-children : goal.invariant-children
invariant-children l = l.children.items ≡ take l.child-index l.child-items
