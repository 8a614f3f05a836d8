-- What is right below a node of a file.
use Rattle.std.proofs.Common.{List, ap, ◌≡◌, ◌∙◌, sym, subst, ◌≤◌, arith, ℕ, length}
use Rattle.std.specs.Prelude.{Option}
use Rattle.std.proofs.lemmas.List.{length-map}
use Rattle.import_definitions.specs.Nodes.{FileNode, tree_of, trees_of, IsInFile, HaveLines}
use Rattle.stored_lines.specs.Tree.{list_of, children, node, forest_of}
use Rattle.import_definitions.proofs.Trees.{tree_out}
use Rattle.gedcom_tree.specs.declared.node.Node.{Node}
use Rattle.gedcom_tree.specs.declared.node.Node.TheViews.{out-Node}
use Rattle.stored_lines.proofs.Listed.{list_back}
use Rattle.stored_lines.specs.Levels.{forest_levels}
use Rattle.import_definitions.specs.Lines.{lines_below, place_in, lined_root, unlined, roots, lined_roots}

pub below_is : (n : Node) (ns : List Node) → ns ≡ (out-Node n).children.items
    → trees_of ns ≡ list_of (children (tree_of n))
below_is n ns e = ap trees_of e ∙ sym (ap (λ (t : FileNode). list_of (children t)) (tree_out n)
    ∙ list_back (trees_of (out-Node n).children.items))

below_have : (t : FileNode) (l : _) (cs : List FileNode) → t ≡ node l (forest_of cs) → IsInFile t
    → HaveLines (forest_of cs) × (forest_levels (forest_of cs) ≤ 98)
below_have t l cs e h = let k : IsInFile (node l (forest_of cs)) = subst IsInFile e h in
    (k.lines.1, let low = k.low in omega arith)

pub below_fits : (n : Node) (ns : List Node) → ns ≡ (out-Node n).children.items → IsInFile (tree_of n)
    → HaveLines (forest_of (trees_of ns)) × (forest_levels (forest_of (trees_of ns)) ≤ 98)
below_fits n ns e h = subst (λ ms. HaveLines (forest_of (trees_of ms)) × (forest_levels (forest_of (trees_of ms)) ≤ 98))
    (sym e) (below_have (tree_of n) _ (trees_of (out-Node n).children.items) (tree_out n) h)

pub below_lines : (place : List ℕ → Option ℕ) (n : Node) (ns : List Node) → ns ≡ (out-Node n).children.items
    → lines_below place (forest_of (trees_of ns)) ≡ lines_below place (children (tree_of n))
below_lines place n ns e = ap (λ ms. lines_below place (forest_of (trees_of ms))) e
    ∙ sym (ap (λ (t : FileNode). lines_below place (children t)) (tree_out n))

pub roots_length : (ks : List FileNode) → length (roots ks) ≡ length ks
unfolding roots
roots_length ks = length-map (lined_roots ks) unlined ∙ length-map ks (lined_root (place_in ks))
