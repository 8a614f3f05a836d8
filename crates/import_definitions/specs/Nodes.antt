-- The nodes of a file, each with those below it (The GEDCOM Standard Release 5.5.1, chapter 1, level: a line stands
-- below the nearest one in front of it whose level is one less).
use Rattle.std.specs.Prelude.{ℕ, ◌≡◌, ◌≤◌, ◌⊎◌, refl, List, map, Option, option_map, string_bytes}
use Rattle.std.proofs.Common.{inl, inr}
use Rattle.std.specs.Coded.{Coded, code_by, coded×, coded⊎, coded_ℕ, coded_list, coded_option}
use Rattle.std.specs.Borrow.{Bor}
use Rattle.record_text.specs.Text.{IsTag, IsPlain}
use Rattle.stored_lines.specs.Tree.{Tree, Forest, node, none, more, forest_of}
use Rattle.stored_lines.specs.Levels.{levels}
use Rattle.stored_lines.specs.Growing.{grown}
use Rattle.gedcom_line.specs.Value.{Meaning, Text, Pointer}
use Rattle.gedcom_tree.specs.Forest.{Item}
use Rattle.gedcom_tree.specs.Flat.{value_said}
use Rattle.gedcom_tree.specs.declared.node.Node.{Node}
use Rattle.gedcom_tree.specs.declared.node.Node.TheOpen.{Node-F}
use Rattle.gedcom_tree.specs.declared.node.Node.TheFolds.{fold-Node}

-- what stands on the line that a node begins with, and the number of that line; how deep it stands is said by the tree
pub record FileLine : Type 0 where
  pub line : ℕ
  pub xref : Option (List ℕ)
  pub tag : List ℕ
  pub value : Meaning

-- the code by which lines are distinguished
abbrev pub meaning_in : Meaning → List ℕ ⊎ List ℕ
meaning_in (Text t) = inl t
meaning_in (Pointer p) = inr p

abbrev pub meaning_from : List ℕ ⊎ List ℕ → Meaning
meaning_from (inl t) = Text t
meaning_from (inr p) = Pointer p

pub meaning_back : (m : Meaning) → meaning_from (meaning_in m) ≡ m
meaning_back (Text t) = refl
meaning_back (Pointer p) = refl

abbrev pub meaning_code : Coded Meaning
meaning_code = code_by (List ℕ ⊎ List ℕ) (coded⊎ (coded_list coded_ℕ) (coded_list coded_ℕ)) meaning_in meaning_from
    meaning_back

abbrev pub file_line_code : Coded FileLine
file_line_code = code_by (ℕ × (Option (List ℕ) × (List ℕ × Meaning)))
    (coded× coded_ℕ (coded× (coded_option (coded_list coded_ℕ)) (coded× (coded_list coded_ℕ) meaning_code)))
    (λ l. (l.line, (l.xref, (l.tag, l.value))))
    (λ t. record { line = t.0; xref = t.1.0; tag = t.1.1.0; value = t.1.1.1 })
    (λ _. refl)

-- a node with those below it
abbrev pub FileNode : Type 0
FileNode = Tree FileLine

abbrev pub leveled : Item → ℕ × FileLine
leveled i = (i.level, record { line = i.line; xref = i.xref; tag = i.tag; value = i.value })

-- the nodes of level 0 of a forest, each with those below it
abbrev pub nodes_of : List Item → List FileNode
nodes_of f = map (λ (t : ℕ × FileNode). t.1) (grown (map leveled f))

-- ---- a node of the code
abbrev pub line_said : {A : Type 0} → Node-F A → FileLine
line_said n = record {
  line = n.line;
  xref = option_map string_bytes n.xref;
  tag = n.tag;
  value = value_said n.value;
}

abbrev pub tree_step : Node-F FileNode → FileNode
tree_step n = node (line_said n) (forest_of n.children.items)

abbrev pub tree_of : Node → FileNode
tree_of = fold-Node FileNode tree_step

abbrev pub trees_of : List Node → List FileNode
trees_of ns = map tree_of ns

-- nodes that are looked at
abbrev pub trees_at : List (Bor Node) → List FileNode
trees_at ns = map (λ (n : Bor Node). tree_of n.now) ns

-- ---- what is so of each node of a file
-- a text without U+0000 and CR, and not too long; or a pointer
abbrev pub IsSaid : Meaning → Type 0
IsSaid (Text t) = IsPlain t
IsSaid (Pointer p) = Unit {0}

pub record IsLine (l : FileLine) : Type 0 where
  pub tag : IsTag l.tag
  pub value : IsSaid l.value

abbrev mutual
  pub HasLines : FileNode → Type 0
  HasLines (node l f) = IsLine l × HaveLines f

  pub HaveLines : Forest FileLine → Type 0
  HaveLines none = Unit {0}
  HaveLines (more t f) = HasLines t × HaveLines f

-- its lines are tags with values, on levels 0 to 98
pub record IsInFile (t : FileNode) : Type 0 where
  pub lines : HasLines t
  pub low : levels t ≤ 99
