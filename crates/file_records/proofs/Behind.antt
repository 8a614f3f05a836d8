-- Paths of nodes, one after the other.
use Rattle.std.proofs.Common.{◌≡◌, ℕ, ◌≤◌, true, List, [], ◌∷◌, ◌++◌, length, drop, refl, sym, ap, ◌∙◌, cond, map}
use Rattle.std.specs.Prelude.{Option, Some, None, bytes_eq, codes}
use Rattle.std.specs.Borrow.{Bor}
use Rattle.std.specs.declared.string.String.{String}
use Rattle.std.specs.Global.{Global}
use Rattle.std.proofs.Math.ListN.{drop_of_length-le}
use Rattle.std.proofs.lemmas.List.{map-append}
use Rattle.stored_lines.specs.Tree.{children, label, node}
use Rattle.stored_lines.specs.Line.{Lines}
use Rattle.record_shapes.specs.Reading.{path_from}
use Rattle.gedcom_tree.specs.declared.node.Node.{Node}
use Rattle.import_definitions.specs.Nodes.{FileNode, trees_at}
use Rattle.import_definitions.specs.Lines.{lined_root, lines_below, place_in, roots, unlined}
use Rattle.import_definitions.specs.Positions.{known_by, path_behind, paths, paths_behind}
use Rattle.file_records.specs.KnownViews.{path_said}
use Rattle.file_records.specs.PathViews.{as_line, as_lines}

-- ---- the path of a node
pub place_is : (rs : Lines) (ps : List (Option (List ℕ))) (place : List ℕ → Option ℕ) (t : FileNode) (path : List ℕ)
    → bytes_eq (label t).tag (codes "_LOC") ≡ true
    → path ≡ path_from (known_by rs ps) (lines_below place (children t)) → Some path
    ≡ path_behind rs ps (as_line place t)
place_is rs ps place (node l f) path is e =
    ap Some e ∙ ap (λ b. cond b (Some (path_from (known_by rs ps) (lines_below place f))) None) (sym is)

-- ---- all nodes
module _ (ks : List FileNode) where
  pub step : (t : FileNode) (rest ts : List FileNode) (ps new : List (Option (String Global)))
      (p : Option (String Global))
      (all : List (Option (List ℕ))) → ts ≡ t ∷ rest → new ≡ ps ++ p ∷ []
      → path_said p ≡ path_behind (roots ks) (map path_said ps) (as_line (place_in ks) t)
      → paths_behind (roots ks) (map path_said ps) (as_lines (place_in ks) ts) ≡ all
      → paths_behind (roots ks) (map path_said new) (as_lines (place_in ks) rest) ≡ all
  step t rest ts ps new p all e more is so =
      ap (λ qs. paths_behind (roots ks) qs (as_lines (place_in ks) rest)) (ap (map path_said) more
      ∙ map-append path_said ps (p ∷ []) ∙ ap (λ q. map path_said ps ++ q ∷ []) is)
      ∙ ap (λ us. paths_behind (roots ks) (map path_said ps) (as_lines (place_in ks) us)) (sym e) ∙ so

  two_maps : (ts : List FileNode) → as_lines (place_in ks) ts ≡ map unlined (map (lined_root (place_in ks)) ts)
  two_maps [] = refl
  two_maps (t ∷ ts) = ap (λ us. as_line (place_in ks) t ∷ us) (two_maps ts)

  pub begun : (ps : List (Option (String Global))) (ts : List FileNode) → ps ≡ [] → ts ≡ ks
      → paths_behind (roots ks) (map path_said ps) (as_lines (place_in ks) ts) ≡ paths (roots ks)
  unfolding paths roots
  begun ps ts none e = ap (λ qs. paths_behind (roots ks) (map path_said qs) (as_lines (place_in ks) ts)) none
      ∙ ap (λ us. paths_behind (roots ks) [] (as_lines (place_in ks) us)) e
      ∙ ap (paths_behind (roots ks) []) (two_maps ks)

  pub ended : (ns : List (Bor Node)) (i : ℕ) (ps : List (Option (String Global))) → length ns ≤ i
      → paths_behind (roots ks) (map path_said ps) (as_lines (place_in ks) (trees_at (drop i ns))) ≡ paths (roots ks)
      → map path_said ps ≡ paths (roots ks)
  ended ns i ps h so = sym (ap (λ ms. paths_behind (roots ks) (map path_said ps) (as_lines (place_in ks) (trees_at ms)))
      (drop_of_length-le ns h)) ∙ so
