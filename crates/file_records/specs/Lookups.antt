-- The lines of a side, found by the family and the person.
use Rattle.std.specs.Prelude.{ℕ, true, List, [], ◌∷◌, Option, Some, None, Bool, codes}
use Rattle.std.specs.List.{slice_get}
use Rattle.stored_lines.specs.Line.{Lines}
use Rattle.stored_lines.specs.Tree.{children, list_of}
use Rattle.import_definitions.specs.Nodes.{FileNode}
use Rattle.import_definitions.specs.Lines.{lines_below, place_in}
use Rattle.file_records.specs.declared.sides.Side.{Side}

-- the tag of the lines of a person that count, by how the family names the person
abbrev pub fit_tag : Option Bool → List ℕ
fit_tag (Some true) = codes "FAMS"
fit_tag _ = codes "FAMC"

-- the lines below a node, where there is one
abbrev pub lines_of : List FileNode → Option FileNode → Lines
lines_of ks None = []
lines_of ks (Some t) = lines_below (place_in ks) (children t)

-- those below the line of the first side, among the nodes below a person
abbrev pub lines_in : List FileNode → List FileNode → List Side → Lines
lines_in ks cs [] = []
lines_in ks cs (s ∷ ss) = lines_of ks (slice_get cs s.line)

-- the nodes below a node, where there is one
abbrev pub nodes_below : Option FileNode → List FileNode
nodes_below None = []
nodes_below (Some t) = list_of (children t)
