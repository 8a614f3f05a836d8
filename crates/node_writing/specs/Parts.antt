-- Parts of a record's lines: what stands before the lines of those records that it owns.
use Rattle.std.specs.Prelude.{◌++◌, map, codes, option_map}
use Rattle.stored_lines.specs.Tree.{Tree}
use Rattle.stored_lines.specs.Line.{Line, Lines}
use Rattle.stored_lines.specs.declared.carried.Value.TheVariants as value
use Rattle.record_kinds.specs.Model as model
use Rattle.record_fields.specs.Dated.{date_text}
use Rattle.record_fields.specs.Words.{sex_word}
use Rattle.record_shapes.specs.Shapes.{
  Around,
  child_line,
  event_place_lines,
  line,
  name_line,
  partner_line,
  participant_line,
  text_lines,
}

-- an event up to its citations
abbrev pub event_head : Around → model.Event → Tree Line
event_head a e = line e.tag (value.Text e.value) (text_lines (codes "DATE") (option_map date_text e.date)
    ++ (event_place_lines a e.place ++ map participant_line e.participants))

-- a person up to the events
abbrev pub person_head : model.Person → Lines
person_head p = map name_line p.names ++ text_lines (codes "SEX") (option_map sex_word p.sex)

-- a family up to the events
abbrev pub family_head : model.Family → Lines
family_head f = map partner_line f.partners ++ map child_line f.children
