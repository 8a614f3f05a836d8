-- A node of the code, by the nodes below it, and by a position.
use Rattle.std.proofs.Common.{◌≡◌, ℕ, zero, suc, ◌≤◌, List, [], ◌∷◌, ap, ◌∙◌, subst, arith}
use Rattle.std.specs.Prelude.{Option, Some, option_map}
use Rattle.std.specs.Borrow.{Bor}
use Rattle.std.specs.List.{slice_get}
use Rattle.std.proofs.lemmas.Option.{slice_get-map}
use Rattle.stored_lines.specs.Tree.{forest_of}
use Rattle.stored_lines.specs.Levels.{forest_levels}
use Rattle.gedcom_tree.specs.declared.node.Node.{Node}
use Rattle.gedcom_tree.specs.declared.node.Node.TheViews.{out-Node}
use Rattle.import_definitions.specs.Nodes.{HaveLines, IsInFile, tree_of, trees_at, trees_of}
use Rattle.import_definitions.specs.Views.{AreInFile}
use Rattle.import_definitions.proofs.Below.{below_fits}

-- ---- one of them
pub child_at : (ns : List Node) (i : ℕ) (o : Option Node) → slice_get ns i ≡ o
    → slice_get (trees_of ns) i ≡ option_map tree_of o
child_at ns i o e = slice_get-map tree_of ns i ∙ ap (option_map tree_of) e

in_file_one : (ns : List Node) (i : ℕ) (n : Node) → HaveLines (forest_of (trees_of ns))
    → forest_levels (forest_of (trees_of ns)) ≤ 98 → slice_get ns i ≡ Some n → IsInFile (tree_of n)
in_file_one [] i n h low e = absurd cc
in_file_one (m ∷ ns) zero n h low e =
    let same : m ≡ n = cc in
    subst (λ (x : Node). IsInFile (tree_of x)) same (record { lines = h.0; low = omega (arith, low) })
in_file_one (m ∷ ns) (suc i) n h low e = in_file_one ns i n h.1 (omega (arith, low)) e

pub child_in_file : (p : Node) (ns : List Node) (i : ℕ) (n : Node) → ns ≡ (out-Node p).children.items
    → IsInFile (tree_of p) → slice_get ns i ≡ Some n → IsInFile (tree_of n)
child_in_file p ns i n e h at = let f = below_fits p ns e h in in_file_one ns i n f.0 f.1 at

-- ---- the node at a position
pub node_at_position : (ns : List (Bor Node)) (i : ℕ) (o : Option (Bor Node)) → slice_get ns i ≡ o
    → slice_get (trees_at ns) i ≡ option_map (λ (n : Bor Node). tree_of n.now) o
node_at_position ns i o e = slice_get-map (λ (n : Bor Node). tree_of n.now) ns i
    ∙ ap (option_map (λ (n : Bor Node). tree_of n.now)) e

pub node_in_file : (ns : List (Bor Node)) (i : ℕ) (n : Bor Node) → AreInFile (trees_at ns)
    → slice_get ns i ≡ Some n → IsInFile (tree_of n.now)
node_in_file [] i n h e = absurd cc
node_in_file (m ∷ ns) zero n h e =
    let same : m ≡ n = cc in subst (λ (x : Bor Node). IsInFile (tree_of x.now)) same h.0
node_in_file (m ∷ ns) (suc i) n h e = node_in_file ns i n h.1 e
