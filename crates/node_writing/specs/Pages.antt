-- The text of nodes, and of lines of records, as they are written in a file.
use Rattle.std.specs.Prelude.{ℕ, List, [], ◌∷◌}
use Rattle.std.specs.List.{flat_map}
use Rattle.stored_lines.specs.Tree.{Tree}
use Rattle.stored_lines.specs.Line.{Line, Lines}
use Rattle.gedcom_tree.specs.Text.{node_text}
use Rattle.node_writing.specs.Nodes.{Mark, items_at, named, nodes_of}

-- the text of nodes, each with all below it, at a level
unfoldable pub nodes_text : ℕ → List (Tree Mark) → List ℕ
nodes_text level ts = flat_map node_text (items_at level ts)

-- the text of lines, each with those below it, at a level; names has the cross references of numbers
unfoldable pub page : (ℕ → List ℕ) → ℕ → Lines → List ℕ
page names level ts = nodes_text level (nodes_of names ts)

-- the text of the record of a number: of its line at level 0, which has a cross reference, and of those below it
unfoldable pub record_page : (ℕ → List ℕ) → ℕ → Tree Line → List ℕ
record_page names n t = nodes_text 0 (named names (names n) t ∷ [])
