-- The nodes of a forest and those of the code are the same trees, and what is so of each.
use Rattle.std.proofs.Common.{◌≡◌, ℕ, ◌+◌, List, [], ◌∷◌, ◌++◌, map, refl, sym, ap, ◌∙◌, subst, append-nil}
use Rattle.std.proofs.lemmas.List.{map-append}
use Rattle.stored_lines.specs.Tree.{Tree, node, forest_of, flat, flat_all}
use Rattle.stored_lines.specs.Growing.{grown}
use Rattle.gedcom_tree.specs.Flat.{flats}
use Rattle.gedcom_tree.specs.Flat.{flat as items_of}
use Rattle.gedcom_tree.proofs.Grown.{flat_out}
use Rattle.gedcom_tree.specs.declared.node.Node.{Node}
use Rattle.gedcom_tree.specs.declared.node.Node.TheOpen.{Node-F}
use Rattle.gedcom_tree.specs.declared.node.Node.TheViews.{out-Node, roll-Node, out-roll-Node}
use Rattle.gedcom_tree.specs.declared.node.Node.TheFolds.{fold_out-Node, ind-Node}
use Rattle.import_definitions.specs.Nodes.{
  FileLine,
  FileNode,
  leveled,
  nodes_of,
  line_said,
  tree_step,
  tree_of,
  trees_of,
}
use Rattle.stored_lines.proofs.Growing.{beside, grown-flat_all}

pub tree_out : (n : Node) → tree_of n ≡ node (line_said (out-Node n)) (forest_of (trees_of (out-Node n).children.items))
tree_out n = fold_out-Node FileNode tree_step n

-- ---- lines grow into their trees

beside-list : {A : Type 0} (d : ℕ) (ts : List (Tree A)) → map (λ (t : ℕ × Tree A). t.1) (beside d (forest_of ts) [])
    ≡ ts
beside-list d [] = refl
beside-list d (t ∷ ts) = ap (λ us. t ∷ us) (beside-list d ts)

pub grown-list : {A : Type 0} (ts : List (Tree A)) → map (λ (t : ℕ × Tree A). t.1) (grown (flat_all 0 (forest_of ts)))
    ≡ ts
grown-list ts = ap (λ ls. map (λ t. t.1) (grown ls)) (sym (append-nil (flat_all 0 (forest_of ts))))
    ∙ ap (map (λ t. t.1)) (grown-flat_all 0 (forest_of ts) [] tt) ∙ beside-list 0 ts

-- ---- nodes and their trees
-- the nodes below and at a node are the lines of its tree
abbrev Matches : Node → Type 0
Matches n = (d : ℕ) → map leveled (items_of n d) ≡ flat d (tree_of n)

children_match : (es : List ((n : Node) × Matches n)) (d : ℕ) → map leveled (flats d (map (λ e. e.0) es))
    ≡ flat_all d (forest_of (trees_of (map (λ e. e.0) es)))
children_match [] d = refl
children_match (e ∷ es) d = map-append leveled (items_of e.0 d) (flats d (map (λ x. x.0) es))
    ∙ (λ i. e.1 d i ++ children_match es d i)

tree_match : (n : Node) → Matches n
tree_match = ind-Node Matches (λ x y is d.
    let n : Node = roll-Node x in
    let o : out-Node n ≡ x = out-roll-Node x in
    let below : map leveled (flats (d + 1) (out-Node n).children.items)
    ≡ flat_all (d + 1) (forest_of (trees_of (out-Node n).children.items)) =
    subst (λ (z : Node-F Node). map leveled (flats (d + 1) z.children.items)
    ≡ flat_all (d + 1) (forest_of (trees_of z.children.items))) (is ∙ sym o)
    (children_match y.children.items (d + 1)) in
    ap (map leveled) (flat_out n d) ∙ ap (λ (ls : List (ℕ × FileLine)). (d, line_said (out-Node n)) ∷ ls) below
    ∙ ap (flat d) (sym (tree_out n)))

trees_match : (ns : List Node) (d : ℕ) → map leveled (flats d ns) ≡ flat_all d (forest_of (trees_of ns))
trees_match [] d = refl
trees_match (n ∷ ns) d = map-append leveled (items_of n d) (flats d ns) ∙ (λ i. tree_match n d i ++ trees_match ns d i)

pub nodes_same : (ns : List Node) → nodes_of (flats 0 ns) ≡ trees_of ns
nodes_same ns = ap (λ (ls : List (ℕ × FileLine)). map (λ (t : ℕ × FileNode). t.1) (grown ls)) (trees_match ns 0)
    ∙ grown-list (trees_of ns)
