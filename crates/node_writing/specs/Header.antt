-- What stands in a file before its records (The GEDCOM Standard Release 5.5.1, chapter 2, HEADER and SUBMITTER_RECORD).
use Rattle.std.specs.Prelude.{ℕ, List, [], ◌∷◌, codes, Option, Some, None}
use Rattle.stored_lines.specs.Tree.{Tree, node, forest_of}
use Rattle.gedcom_line.specs.Value.{Meaning, Text, Pointer}
use Rattle.node_writing.specs.Nodes.{Mark}

abbrev pub branch : Option (List ℕ) → List ℕ → Meaning → List (Tree Mark) → Tree Mark
branch xref tag v below = node (record { xref = xref; tag = tag; value = v }) (forest_of below)

abbrev pub leaf : List ℕ → Meaning → Tree Mark
leaf tag v = branch None tag v []

-- which form of GEDCOM the file has, and in which characters
abbrev pub form_lines : List (Tree Mark)
form_lines =
    branch None (codes "GEDC") (Text [])
    (leaf (codes "VERS") (Text (codes "5.5.1")) ∷ leaf (codes "FORM") (Text (codes "LINEAGE-LINKED")) ∷ [])
    ∷ leaf (codes "CHAR") (Text (codes "UTF-8")) ∷ []

abbrev pub file_head : Tree Mark
file_head = branch None (codes "HEAD") (Text [])
    (leaf (codes "SOUR") (Text (codes "PARISH")) ∷ leaf (codes "SUBM") (Pointer (codes "@SOCIETY@")) ∷ form_lines)

-- the society, as the one that submits the file
abbrev pub submitter : List ℕ → Tree Mark
submitter society =
    branch (Some (codes "@SOCIETY@")) (codes "SUBM") (Text []) (leaf (codes "NAME") (Text society) ∷ [])

abbrev pub header : List ℕ → List (Tree Mark)
header society = file_head ∷ submitter society ∷ []
