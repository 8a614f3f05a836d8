-- The nodes of a file are no more than its lines.
use Rattle.std.proofs.Common.{ℕ, ◌+◌, ◌≤◌, ◌==◌, Bool, true, false, cond, List, [], ◌∷◌, length, map, arith}
use Rattle.std.specs.Prelude.{not}
use Rattle.std.proofs.lemmas.List.{length-map}
use Rattle.stored_lines.specs.Growing.{backs, grown}
use Rattle.gedcom_tree.specs.Forest.{Item}
use Rattle.import_definitions.specs.Nodes.{FileLine, FileNode, leveled, nodes_of}
use Rattle.import_definitions.specs.Roots.{behind_first, candidates, is_kept, is_society, kept}
use Rattle.import_definitions.proofs.InFile.{filter_few, behind_few}

backs_few : (d : ℕ) (ts : List (ℕ × FileNode)) → length (backs d ts) ≤ length ts
backs_few d [] = omega arith
backs_few d (t ∷ ts) = by (t.0 == d) (backs_few d ts)
  where
    by : (b : Bool) → length (backs d ts) ≤ length ts → length (cond b (backs d ts) (t ∷ ts)) ≤ length (t ∷ ts)
    by true h = omega arith
    by false h = omega arith

grown_few : (ls : List (ℕ × FileLine)) → length (grown ls) ≤ length ls
grown_few [] = omega arith
grown_few (l ∷ ls) = let h = grown_few ls in let k = backs_few (l.0 + 1) (grown ls) in omega arith

pub kept_few : (f : List Item) → length (kept (candidates f)) ≤ length f
kept_few f = omega (
  arith,
  filter_few (is_kept (candidates f)) (candidates f),
  filter_few (λ t. not (is_society t)) (behind_first (nodes_of f)),
  behind_few (nodes_of f),
  length-map (grown (map leveled f)) (λ (t : ℕ × FileNode). t.1),
  grown_few (map leveled f),
  length-map f leveled,
)
