use Rattle.std.proofs.Common.{◌≡◌, ◌++◌, length}
use Rattle.archive_state.specs.Merging as merging
use Rattle.merging.proofs.children_once.once_child.Given as goal

abbrev pub invariant-children : goal.invariant-children
invariant-children l = l.made.items ++ merging.once_child l.person l.children.items
    ≡ merging.once_child l.person l.fn.children.items

abbrev pub decreases-children : goal.decreases-children
decreases-children l = length l.children.items
