-- The forest of an archive (The GEDCOM Standard Release 5.5.1, chapter 2, LINEAGE_LINKED_GEDCOM): the header, the
-- society, and the nodes of the records in their order. Its text is that of any forest.
use Rattle.std.specs.Prelude.{ℕ, List, ◌++◌, map}
use Rattle.stored_lines.specs.Tree.{Tree, label, relabel}
use Rattle.record_kinds.specs.declared.record.Record.{Record}
use Rattle.record_shapes.specs.Shapes.{shape}
use Rattle.archive_state.specs.Content.{Records}
use Rattle.gedcom_tree.specs.Forest.{Item}
use Rattle.node_writing.specs.Header.{header}
use Rattle.node_writing.specs.Nodes.{Mark, items_at, named}
use Rattle.gedcom_export.specs.Around.{around}
use Rattle.gedcom_export.specs.Names.{name_of}
use Rattle.gedcom_export.specs.Order.{Numbered, households}

-- a record with what it owns, without their numbers
abbrev pub without_numbers : Tree Numbered → Tree Record
without_numbers t = relabel (λ (e : Numbered). e.1) t

-- the node of a record with what it owns
abbrev pub node_of : Records → Tree Numbered → Tree Mark
node_of m t = named (name_of m) (name_of m (label t).0) (shape (around m) (label t).0 (without_numbers t))

-- the forest of an export; `text` of it is what is written
unfoldable pub exported : Records → List ℕ → List Item
exported m society = items_at 0 (header society ++ map (node_of m) (households m))
