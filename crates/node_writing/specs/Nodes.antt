-- The nodes of a file that the lines of records are (The GEDCOM Standard Release 5.5.1, chapter 1): the numbers in
-- their pointers are names.
use Rattle.std.specs.Prelude.{ℕ, List, map, Option, Some, None}
use Rattle.stored_lines.specs.Tree.{Tree, node, forest_of, flat_all, relabel, relabel_all}
use Rattle.stored_lines.specs.Line.{Line, Lines}
use Rattle.stored_lines.specs.declared.carried.Value.{Value}
use Rattle.stored_lines.specs.declared.carried.Value.TheVariants as value
use Rattle.gedcom_line.specs.Value.{Meaning, Text, Pointer}
use Rattle.gedcom_tree.specs.Forest.{Item}

-- a node of a file by itself: what is below it, and so its level, is said separately
pub record Mark : Type 0 where
  pub xref : Option (List ℕ)
  pub tag : List ℕ
  pub value : Meaning

-- a node at a level; a forest that is written has no line numbers, so 0 stands for them
abbrev pub item_at : ℕ × Mark → Item
item_at p = record { line = 0; level = p.0; xref = p.1.xref; tag = p.1.tag; value = p.1.value }

-- nodes with all below them, side by side at a level, in the order of their lines
abbrev pub items_at : ℕ → List (Tree Mark) → List Item
items_at level ts = map item_at (flat_all level (forest_of ts))

-- a pointer is the name of the number that it has
abbrev pub named_value : (ℕ → List ℕ) → Value → Meaning
named_value names (value.Text t) = Text t
named_value names (value.Ref n) = Pointer (names n)

-- a line as a node
abbrev pub mark_of : (ℕ → List ℕ) → Option (List ℕ) → Line → Mark
mark_of names xref l = record { xref = xref; tag = l.tag; value = named_value names l.value }

-- lines with those below them, none of them with a cross reference
abbrev pub nodes_of : (ℕ → List ℕ) → Lines → List (Tree Mark)
nodes_of names ts = map (relabel (mark_of names None)) ts

-- the line of a record, with a cross reference, and the lines below it
abbrev pub named : (ℕ → List ℕ) → List ℕ → Tree Line → Tree Mark
named names xref (node l f) = node (mark_of names (Some xref) l) (relabel_all (mark_of names None) f)
