-- The entry that lines may be, as the code guesses and compares it.
use Rattle.std.specs.Prelude.{ℕ, ◌&&◌, Bool, List, [], ◌∷◌, ◌++◌, map, codes, Option, None, option_map}
use Rattle.std.specs.List.{filter}
use Rattle.std.specs.Option.{unwrap_or}
use Rattle.stored_lines.specs.Tree.{Tree, forest_of}
use Rattle.stored_lines.specs.Line.{Line, Lines}
use Rattle.stored_lines.specs.declared.carried.Value.{Value}
use Rattle.stored_lines.specs.declared.carried.Value.TheVariants as value
use Rattle.record_kinds.specs.Model as model
use Rattle.record_fields.specs.Dated.{date_from, date_text}
use Rattle.record_fields.specs.Items.{item_of, first_item}
use Rattle.record_fields.specs.Words.{entry_kind_of, role_word}
use Rattle.record_fields.specs.declared.entry_words.EntryKind.{EntryKind}
use Rattle.record_shapes.specs.Roles.{is_role_of}
use Rattle.record_shapes.specs.Forms.{Known, number_of, tagged, text_of}
use Rattle.record_shapes.specs.Entries.{below_on, line_at, mention_on, names_person, number_on, same_forest, text_on}
use Rattle.record_shapes.specs.Shapes.{
  Around,
  entry_place_lines,
  link_lines,
  mention_line,
  pointer_line,
  text_line,
  text_lines,
}

-- the kind whose word a value is
abbrev pub kind_in : Value → Option EntryKind
kind_in (value.Text t) = entry_kind_of t
kind_in (value.Ref n) = None

-- the entry of a kind whose fields are the first lines of each tag
abbrev pub guess : EntryKind → Lines → model.Entry
guess kind ts = record {
  source = number_on (line_at (codes "SOUR") ts);
  kind = kind;
  page = text_on (line_at (codes "PAGE") ts);
  item = unwrap_or (item_of (text_on (line_at (codes "_ITEM") ts))) first_item;
  date = date_from (option_map text_of (line_at (codes "DATE") ts));
  place = option_map number_of (line_at (codes "_LOC") (below_on (line_at (codes "PLAC") ts)));
  text = text_on (line_at (codes "TEXT") ts);
  mentions = map mention_on (filter (tagged (codes "_MENT")) ts);
}

-- the same lines
abbrev pub are : Lines → Lines → Bool
are ts us = same_forest (forest_of ts) (forest_of us)

-- the lines of an entry whose item has these words: from each of its fields on
abbrev pub from_text : model.Entry → Lines
from_text e = text_line (codes "TEXT") e.text ∷ map mention_line e.mentions

abbrev pub from_place : Around → model.Entry → Lines
from_place a e = entry_place_lines a e.place ++ from_text e

abbrev pub from_date : Around → model.Entry → Lines
from_date a e = text_lines (codes "DATE") (option_map date_text e.date) ++ from_place a e

abbrev pub from_item : Around → model.Entry → List ℕ → Lines
from_item a e item = text_line (codes "_ITEM") item ∷ from_date a e

abbrev pub from_page : Around → model.Entry → List ℕ → Lines
from_page a e item = text_line (codes "PAGE") e.page ∷ from_item a e item

abbrev pub entry_lines_by : Around → model.Entry → List ℕ → Lines
entry_lines_by a e item = pointer_line (codes "SOUR") e.source [] ∷ from_page a e item

-- the lines below a mention
abbrev pub below_mention : model.Mention → Lines
below_mention m = text_line (codes "_ROLE") (role_word m.role) ∷ link_lines m.link

-- the line of a link
abbrev pub link_line : model.Link → Tree Line
link_line l = pointer_line (codes "_LINK") l.person (text_line (codes "_WHY") l.reason ∷ [])

-- a mention has a role of the kind, and its link names a person
abbrev pub fits : Known → EntryKind → model.Mention → Bool
fits known kind m = is_role_of kind m.role && names_person known m.link
