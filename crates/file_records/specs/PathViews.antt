-- A node that becomes a record, as lines.
use Rattle.std.specs.Prelude.{ℕ, List, Option, map}
use Rattle.stored_lines.specs.Tree.{Tree}
use Rattle.stored_lines.specs.Line.{Line, Lines}
use Rattle.import_definitions.specs.Nodes.{FileNode}
use Rattle.import_definitions.specs.Lines.{lined_root, unlined}

abbrev pub as_line : (List ℕ → Option ℕ) → FileNode → Tree Line
as_line place t = unlined (lined_root place t)

abbrev pub as_lines : (List ℕ → Option ℕ) → List FileNode → Lines
as_lines place ts = map (as_line place) ts
