-- What a report of an import says of the header of a file (The GEDCOM Standard Release 5.5.1, chapter 2, HEADER), which
-- makes no record: its lines, but those of CHAR and GEDC and all below them. Rules of our own.
use Rattle.std.specs.Prelude.{
  ℕ,
  ◌+◌,
  ◌==◌,
  ◌||◌,
  Bool,
  List,
  [],
  ◌∷◌,
  ◌++◌,
  bytes_eq,
  codes,
  decimal,
  length,
  nat_lt,
  if◌then◌else◌,
}
use Rattle.stored_lines.specs.Tree.{Forest, none, more, node, label}
use Rattle.gedcom_line.specs.Value.{Meaning, Text, Pointer}
use Rattle.gedcom_tree.specs.Forest.{Item}
use Rattle.import_definitions.specs.Nodes.{FileLine, FileNode, nodes_of}
use Rattle.searching.specs.Printing.{shown}

-- ---- lines
-- a value behind a space; nothing where it is empty
abbrev pub words_text : List ℕ → List ℕ
words_text words = if length words == 0 then [] else 32 ∷ shown words

abbrev pub value_text : Meaning → List ℕ
value_text (Text t) = words_text t
value_text (Pointer name) = words_text name

-- `line 3: head: 1 SOUR GRAMPS`
abbrev pub line_text : ℕ → FileLine → List ℕ
line_text level l = codes "line " ++ (decimal l.line ++ (codes ": head: " ++ (decimal level ++ (codes " "
    ++ (l.tag ++ (value_text l.value ++ 10 ∷ []))))))

-- ---- nodes
-- the level below; a file has none above 99
abbrev pub next_level : ℕ → ℕ
next_level level = if nat_lt level 99 then level + 1 else 99

abbrev mutual
  -- a node and all below it
  pub tree_text : ℕ → FileNode → List ℕ
  tree_text level (node l f) = line_text level l ++ forest_text (next_level level) f

  pub forest_text : ℕ → Forest FileLine → List ℕ
  forest_text level none = []
  forest_text level (more t f) = tree_text level t ++ forest_text level f

-- a line that each file has
abbrev pub is_known : List ℕ → Bool
is_known tag = bytes_eq tag (codes "CHAR") || bytes_eq tag (codes "GEDC")

abbrev pub part_text : FileNode → List ℕ
part_text t = if is_known (label t).tag then [] else tree_text 1 t

abbrev pub below_text : Forest FileLine → List ℕ
below_text none = []
below_text (more t f) = part_text t ++ below_text f

-- the first node of a file is its header
abbrev pub first_text : List FileNode → List ℕ
first_text [] = []
first_text (node l below ∷ behind) = below_text below

abbrev pub head_text : List Item → List ℕ
head_text f = first_text (nodes_of f)
