use Rattle.std.proofs.Common.{◌≡◌, ◌++◌, ◌∷◌}
use Rattle.stored_lines.specs.Tree.{flat_all, forest_of, label}
use Rattle.stored_lines.proofs.stored.+push_branch.Given as goal

abbrev pub invariant-children : goal.invariant-children
invariant-children l = l.out.items ≡ l.fn.out.items
    ++ ((l.depth, label l.fn.branch) ∷ flat_all l.below (forest_of l.yielded))
