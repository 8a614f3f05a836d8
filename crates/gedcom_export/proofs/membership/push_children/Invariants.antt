use Rattle.std.proofs.Common.{◌≡◌, ◌++◌, take}
use Rattle.gedcom_export.specs.Adding.{children_of}
use Rattle.gedcom_export.proofs.membership.push_children.Given as goal

abbrev pub invariant-children : goal.invariant-children
invariant-children l = l.sides.items ≡ l.fn.sides.items ++ children_of l.family (take l.child-index l.children)
