-- What all nodes of a file are read as.
use Rattle.std.specs.Prelude.{List}
use Rattle.stored_lines.specs.Tree.{Tree}
use Rattle.stored_lines.specs.Line.{Lines}
use Rattle.record_kinds.specs.declared.record.Record.{Record}
use Rattle.record_kinds.specs.declared.record.Record.TheVariants as kind
use Rattle.record_shapes.specs.Reading.{Draft}
use Rattle.import_definitions.specs.Sides.{drafts_from}

abbrev pub drafts : Lines → List (Tree Draft)
drafts rs = drafts_from rs 0 rs

-- a record as it is read: an event or a citation has no owner yet, since it is what it is below
abbrev pub without_owner : Record → Record
without_owner (kind.Event e) = kind.Event (record e { owner = 0 })
without_owner (kind.Citation c) = kind.Citation (record c { owner = 0 })
without_owner r = r
