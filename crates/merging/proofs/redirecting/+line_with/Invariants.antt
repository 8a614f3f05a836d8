use Rattle.std.proofs.Common.{◌≡◌, take, map}
use Rattle.stored_lines.specs.Tree.{relabel}
use Rattle.archive_state.specs.Merging as merging
use Rattle.merging.proofs.redirecting.+line_with.Given as goal

abbrev pub invariant-children : goal.invariant-children
invariant-children l = l.children.items ≡ map (relabel (merging.line_with (merging.renamed l.keep l.gone)))
    (take l.child-index l.child-items)
