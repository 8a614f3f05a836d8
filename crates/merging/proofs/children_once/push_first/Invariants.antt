use Rattle.std.proofs.Common.{◌≡◌, ◌++◌, length}
use Rattle.archive_state.specs.Merging as merging
use Rattle.merging.proofs.children_once.push_first.Given as goal

abbrev pub invariant-children : goal.invariant-children
invariant-children l = record {
  first : merging.child_of_all l.person l.first l.children.items ≡ merging.child_of_all l.person l.fn.child
      l.fn.children.items;
  others : l.others.items ++ merging.others l.person l.children.items ≡ merging.others l.person l.fn.children.items;
}

abbrev pub decreases-children : goal.decreases-children
decreases-children l = length l.children.items
