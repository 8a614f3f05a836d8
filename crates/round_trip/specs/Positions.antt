-- Where the records of an archive stand in its export: rules of our own.
use Rattle.std.specs.Prelude.{ℕ, ◌+◌, ◌==◌, List, [], ◌∷◌, map, if◌then◌else◌}
use Rattle.std.specs.List.{flat_map}
use Rattle.stored_lines.specs.Tree.{Tree, flat, label, relabel}
use Rattle.stored_lines.specs.Line.{Line, Lines}
use Rattle.record_shapes.specs.Shapes.{shape}
use Rattle.archive_state.specs.Content.{Records}
use Rattle.archive_state.specs.Merging.{line_with}
use Rattle.gedcom_export.specs.Around.{around}
use Rattle.gedcom_export.specs.Forest.{without_numbers}
use Rattle.gedcom_export.specs.Order.{Numbered, households}

-- the position of a number on a list, from 0; of one that is not there, how long the list is
abbrev pub position_of : ℕ → List ℕ → ℕ
position_of n [] = 0
position_of n (k ∷ ks) = if k == n then 0 else position_of n ks + 1

-- the numbers of all records of trees, in the order of their lines
abbrev pub numbers_in : List (Tree Numbered) → List ℕ
numbers_in ts = flat_map (λ (t : Tree Numbered). map (λ (p : ℕ × Numbered). p.1.0) (flat 0 t)) ts

-- the position of the node of a record among the nodes of an export
abbrev pub node_position : Records → ℕ → ℕ
node_position m n = position_of n (map (λ (t : Tree Numbered). (label t).0) (households m))

-- the number that a record gets in an archive that was empty: from 1, in the order of the lines
abbrev pub new_number : Records → ℕ → ℕ
new_number m n = position_of n (numbers_in (households m)) + 1

-- the lines of a record with what it owns, where a pointer is the position of the node that it names
abbrev pub lines_by_position : Records → Tree Numbered → Tree Line
lines_by_position m t = relabel (line_with (node_position m)) (shape (around m) (label t).0 (without_numbers t))

-- the nodes of an export, as they are found in its file
abbrev pub nodes_by_position : Records → Lines
nodes_by_position m = map (lines_by_position m) (households m)
