use Rattle.std.proofs.Common.{◌≡◌, ◌++◌, map, drop, string_bytes}
use Rattle.record_shapes.specs.Shapes.{child_line}
use Rattle.node_writing.specs.Pages.{page}
use Rattle.node_writing.proofs.families.push_children.Given as goal

abbrev pub invariant-children : goal.invariant-children
invariant-children g l =
    string_bytes l.out ++ page (g.N.Named.names l.index) 1 (map child_line (drop l.child-index l.children))
    ≡ string_bytes l.fn.out ++ page (g.N.Named.names l.index) 1 (map child_line l.children)
