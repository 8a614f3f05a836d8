-- Carried lines are read again from stored ones, and lines are of one tree.
use Rattle.std.specs.Prelude.{ℕ, List, [], ◌∷◌, ◌≡◌, map, Some, refl}
use Rattle.std.proofs.Common.{ap, sym, ◌∙◌}
use Rattle.stored_lines.specs.Tree.{Tree, flat, forest_of, list_of, relabel}
use Rattle.stored_lines.specs.Line.{Line, Lines, label_for, label_of, line_of}
use Rattle.stored_lines.specs.Growing.{grown, sole}
use Rattle.stored_lines.proofs.Growing.{grown_tree}
use Rattle.stored_lines.proofs.Relabel.{map-relabel-back}
use Rattle.stored_lines.specs.declared.carried.Value.{Value}
use Rattle.stored_lines.specs.declared.carried.Value.TheVariants as value

value-back : (tag : List ℕ) (v : Value) → line_of (label_for tag v) ≡ record { tag = tag; value = v }
value-back tag (value.Text t) = refl
value-back tag (value.Ref n) = refl

pub line_back : (l : Line) → line_of (label_of l) ≡ l
line_back l = value-back l.tag l.value

pub lines_back : (ls : Lines) → map (relabel line_of) (map (relabel label_of) ls) ≡ ls
lines_back ls = map-relabel-back label_of line_of line_back ls

module _ {A : Type 0} where
  pub list_of_forest_of : (ts : List (Tree A)) → list_of (forest_of ts) ≡ ts
  list_of_forest_of [] = refl
  list_of_forest_of (t ∷ ts) = ap (λ us. t ∷ us) (list_of_forest_of ts)

  sole-tree : (t : Tree A) → sole (grown (flat 0 t)) ≡ Some t
  sole-tree t = ap sole (grown_tree t)

  pub flat_one : (t u : Tree A) → flat 0 t ≡ flat 0 u → t ≡ u
  flat_one t u e = let same : Some t ≡ Some u = sym (sole-tree t) ∙ ap (λ (x : List (ℕ × A)). sole (grown x)) e
      ∙ sole-tree u in cc
