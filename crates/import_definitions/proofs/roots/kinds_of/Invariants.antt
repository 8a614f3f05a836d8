use Rattle.std.proofs.Common.{◌≡◌, map, take}
use Rattle.stored_lines.specs.Tree.{label}
use Rattle.import_definitions.specs.Kinds.{kind_named}
use Rattle.import_definitions.specs.Nodes.{trees_at, FileNode}
use Rattle.import_definitions.proofs.roots.kinds_of.Given as goal

abbrev pub invariant-loop-node : goal.invariant-loop-node
invariant-loop-node l = l.kinds.items
    ≡ map (λ (t : FileNode). kind_named (label t).tag) (trees_at (take l.node-index l.nodes))
