-- Lines compared, one after the other.
use Rattle.std.specs.Prelude.{ℕ, ◌≡◌, ◌==◌, ◌&&◌, length, List, [], ◌∷◌, bytes_eq, refl}
use Rattle.std.proofs.Common.{ap, sym, arith}
use Rattle.std.proofs.lemmas.Bool.Decides.{nat_tests}
use Rattle.stored_lines.specs.Tree.{Tree, Forest, node, none, more, forest_of, list_of}
use Rattle.stored_lines.specs.Line.{Line, Lines}
use Rattle.stored_lines.specs.declared.carried.Value.{Value}
use Rattle.record_shapes.specs.Forms.{below, is_childless, tagged, value_of}
use Rattle.record_shapes.specs.Entries.{same_forest, same_tree, same_value}
use Rattle.record_shapes.specs.Shapes.{line}
use Rattle.entry_reading.specs.Guess.{are}

back : (f : Forest Line) → forest_of (list_of f) ≡ f
back none = refl
back (more t f) = ap (λ g. more t g) (back f)

-- a line is the same as another by its tag, its value and what is below it
pub tree_is : (t : Tree Line) (tag : List ℕ) (v : Value) (ks : Lines)
    → same_tree t (line tag v ks) ≡ (tagged tag t && (same_value (value_of t) v && are (below t) ks))
tree_is (node l f) tag v ks =
    ap (λ g. bytes_eq l.tag tag && (same_value l.value v && same_forest g (forest_of ks))) (sym (back f))

-- and as one with none below it
pub bare_tree_is : (t : Tree Line) (tag : List ℕ) (v : Value)
    → same_tree t (line tag v []) ≡ (tagged tag t && (same_value (value_of t) v && is_childless t))
bare_tree_is (node l none) tag v = refl
bare_tree_is (node l (more t f)) tag v = refl

pub end_is : (ts : Lines) → are ts [] ≡ (length ts == 0)
end_is [] = refl
end_is (t ∷ ts) = grind (arith, nat_tests)
