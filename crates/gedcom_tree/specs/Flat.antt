-- The nodes of a forest in order, with their depths.
use Rattle.std.specs.Prelude.{ℕ, ◌+◌, List, [], ◌∷◌, ◌++◌, map, string_bytes, option_map}
use Rattle.gedcom_line.specs.Value.{Meaning, Text, Pointer}
use Rattle.gedcom_tree.specs.Forest.{Item}
use Rattle.gedcom_tree.specs.declared.node.Node.{Node}
use Rattle.gedcom_tree.specs.declared.node.NodeValue.{NodeValue}
use Rattle.gedcom_tree.specs.declared.node.NodeValue.TheVariants as value
use Rattle.gedcom_tree.specs.declared.node.Node.TheOpen.{Node-F}
use Rattle.gedcom_tree.specs.declared.node.Node.TheViews.{out-Node}
use Rattle.gedcom_tree.specs.declared.node.Node.TheFolds.{fold-Node}

abbrev pub value_said : NodeValue → Meaning
value_said (value.Text t) = Text (string_bytes t)
value_said (value.Pointer p) = Pointer (string_bytes p)

-- the lists that the functions give at a level, one after another
abbrev pub all_at : ℕ → List (ℕ → List Item) → List Item
all_at level [] = []
all_at level (f ∷ fs) = f level ++ all_at level fs

-- one node, with what each child gives at a level in its place
abbrev pub flat_step : Node-F (ℕ → List Item) → ℕ → List Item
flat_step n level = record {
  line = n.line;
  level = level;
  xref = option_map string_bytes n.xref;
  tag = n.tag;
  value = value_said n.value;
} ∷ all_at (level + 1) n.children.items

-- the node and all below it, in order
abbrev pub flat : Node → ℕ → List Item
flat = fold-Node (ℕ → List Item) flat_step

-- the same of several nodes
abbrev pub flats : ℕ → List Node → List Item
flats level ns = all_at level (map flat ns)

-- only a node
abbrev pub said : ℕ → Node → Item
said level n = record {
  line = (out-Node n).line;
  level = level;
  xref = option_map string_bytes (out-Node n).xref;
  tag = (out-Node n).tag;
  value = value_said (out-Node n).value;
}

-- The same while a forest is put together.

-- nodes of which each is the last child of the one before it, whose later children are still to come
abbrev pub flat_open : ℕ → List Node → List Item
flat_open level [] = []
flat_open level (n ∷ ns) = flat n level ++ flat_open (level + 1) ns

-- all nodes so far, in order
abbrev pub built : List Node → List Node → List Item
built roots open_ = flats 0 roots ++ flat_open 0 open_
