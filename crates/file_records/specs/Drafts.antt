-- What all nodes of a file are read as.
use Rattle.std.specs.Prelude.{ℕ, ◌≡◌, List, codes, bytes_eq, true, map, Option, None}
use Rattle.stored_lines.specs.Tree.{Tree, Forest, node}
use Rattle.stored_lines.specs.Line.{Line, Lines}
use Rattle.record_kinds.specs.Model as model
use Rattle.record_kinds.specs.declared.record.Record.TheVariants as kind
use Rattle.record_shapes.specs.Reading.{Draft, family_from, read}
use Rattle.import_definitions.specs.Nodes.{FileNode}
use Rattle.import_definitions.specs.Lines.{lined_root, unlined}
use Rattle.import_definitions.specs.Positions.{known, tag_at}
use Rattle.import_definitions.specs.Sides.{lines_at}

-- a node that becomes a record, as a line
abbrev pub as_line : (List ℕ → Option ℕ) → FileNode → Tree Line
as_line place t = unlined (lined_root place t)

abbrev pub as_lines : (List ℕ → Option ℕ) → List FileNode → Lines
as_lines place ts = map (as_line place) ts

-- where a draft is a family, the node at a position is, and it was read from the lines of that
abbrev pub ReadsFamily : Lines → ℕ → Tree Draft → Type 0
ReadsFamily rs k t = (f : model.Family) (owned : Forest Draft) → t ≡ node (read (kind.Family f) None) owned
    → (bytes_eq (tag_at rs k) (codes "FAM") ≡ true) × (f ≡ family_from (known rs) (lines_at rs k))
