-- The text of a record of an export.
use Rattle.std.specs.Prelude.{ℕ, List}
use Rattle.stored_lines.specs.Tree.{Tree, label}
use Rattle.record_shapes.specs.Shapes.{shape}
use Rattle.archive_state.specs.Content.{Records}
use Rattle.node_writing.specs.Pages.{record_page}
use Rattle.gedcom_export.specs.Around.{around}
use Rattle.gedcom_export.specs.Forest.{without_numbers}
use Rattle.gedcom_export.specs.Names.{name_of}
use Rattle.gedcom_export.specs.Order.{Numbered}

-- the text of a record with what it owns
abbrev pub household_page : Records → Tree Numbered → List ℕ
household_page m t = record_page (name_of m) (label t).0 (shape (around m) (label t).0 (without_numbers t))
