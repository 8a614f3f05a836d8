-- Nodes in a row, as trees: the first of those that are left, and those after it.
use Rattle.std.proofs.Common.{◌≡◌, ℕ, ◌+◌, ◌<◌, List, ◌∷◌, length, drop, get_or, ap}
use Rattle.gedcom_tree.specs.declared.node.Node.{Node}
use Rattle.import_definitions.specs.Nodes.{tree_of, trees_of}
use Rattle.list_laws.proofs.Lists.{item_here}

pub front_of : (ns : List Node) (i : ℕ) (n : Node) → i < length ns → n ≡ get_or ns i n
    → trees_of (drop i ns) ≡ tree_of n ∷ trees_of (drop (i + 1) ns)
front_of ns i n h e = ap trees_of (item_here ns i n h e)
