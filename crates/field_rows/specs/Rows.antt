-- What a line is below an event, as the code sorts it: the line of its place with the path that it tells.
use Rattle.std.specs.Prelude.{ℕ, ◌≡◌, ◌&&◌, Bool, false, List, codes, string_bytes}
use Rattle.stored_lines.specs.Tree.{Tree}
use Rattle.stored_lines.specs.Line.{Line}
use Rattle.record_shapes.specs.Paths.{normal}
use Rattle.record_shapes.specs.Forms.{Known, is_text, names_a, tagged, text_of, value_of}
use Rattle.record_shapes.specs.declared.field.Field.{Field}
use Rattle.record_shapes.specs.Fields.{
  a_citation,
  a_participant,
  a_place,
  carried,
  is_citation,
  is_place_text,
  is_same,
  row,
}
use Rattle.field_rows.specs.declared.places.EventRow.{EventRow}
use Rattle.field_rows.specs.declared.places.EventRow.TheVariants as event_row

-- the line of a place: the second row of the table of events
abbrev pub is_place : Tree Line → Bool
is_place t = tagged (codes "PLAC") t && (is_text t && is_place_text (text_of t))

-- the rows after it
abbrev pub beside : Known → Tree Line → Field
beside known t = row (tagged (codes "_PART") t && names_a (codes "INDI") known (value_of t)) a_participant
    (row (is_citation known t) a_citation carried)

-- a row stands for a field; that of a place has the path of the text
abbrev pub IsRow : Field → List ℕ → EventRow → Type 0
IsRow x text (event_row.Place path) = (x ≡ a_place) × (string_bytes path ≡ normal text)
IsRow x text (event_row.Line y) = (y ≡ x) × (is_same x a_place ≡ false)
