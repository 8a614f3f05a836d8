-- How a record is kept: a tree of lines, listed in order with their depths. The first line has the word of the kind;
-- each field stands on a line with a word of its own, and a line may have a text and the number of a record together.
-- The carried lines of a part stand last, below one line. So nothing is escaped, and a carried line may have any tag.
use Rattle.std.specs.Prelude.{
  ℕ,
  List,
  [],
  ◌∷◌,
  ◌++◌,
  map,
  codes,
  Option,
  Some,
  None,
  option_map,
  decimal,
  cond,
  nat_le,
  length,
}
use Rattle.stored_lines.specs.Tree.{Tree, node, forest_of, flat, relabel}
use Rattle.stored_lines.specs.Line.{Label, Lines, Branches, label_for, label_of}
use Rattle.record_kinds.specs.Model as model
use Rattle.record_fields.specs.Words.{quality_word, sex_word, partnership_word, entry_kind_word, role_word}
use Rattle.record_fields.specs.Dated.{date_text}
use Rattle.record_fields.specs.declared.item.Item.{Item}
use Rattle.records.specs.declared.field.Field.{Field}
use Rattle.records.specs.declared.field.Field.TheVariants as field
use Rattle.record_kinds.specs.declared.record.Record.{Record}
use Rattle.record_kinds.specs.declared.record.Record.TheVariants as kind

-- the word of a kind or a field
abbrev pub word : Field → List ℕ
word field.Place = codes "place"
word field.Repo = codes "repo"
word field.Source = codes "source"
word field.Person = codes "person"
word field.Family = codes "family"
word field.Citation = codes "citation"
word field.Author = codes "author"
word field.Publisher = codes "publisher"
word field.Holding = codes "holding"
word field.Quality = codes "quality"
word field.Name = codes "name"
word field.Sex = codes "sex"
word field.Partner = codes "partner"
word field.Child = codes "child"
word field.Event = codes "event"
word field.Date = codes "date"
word field.Participant = codes "participant"
word field.Entry = codes "entry"
word field.Key = codes "key"
word field.Page = codes "page"
word field.Item = codes "item"
word field.Text = codes "text"
word field.Mention = codes "mention"
word field.Role = codes "role"
word field.Reason = codes "reason"
word field.Other = codes "other"
word field.Side = codes "side"
word field.Carried = codes "carried"

-- a line and those below it
abbrev pub branch : Field → Option (List ℕ) → Option ℕ → Branches → Tree Label
branch f text target below = node (record { tag = word f; text = text; target = target }) (forest_of below)

-- carried lines, below a line of their own
abbrev pub lines_below : Field → Lines → Branches
lines_below f [] = []
lines_below f (t ∷ ts) = branch f None None (map (relabel label_of) (t ∷ ts)) ∷ []

-- a text that may be missing
abbrev pub text_trees : Field → Option (List ℕ) → Branches
text_trees f None = []
text_trees f (Some t) = branch f (Some t) None [] ∷ []

abbrev pub place_tree : model.Place → Tree Label
place_tree p = branch field.Place (Some p.name) p.parent (lines_below field.Carried p.carried)

abbrev pub repo_tree : model.Repo → Tree Label
repo_tree r = branch field.Repo r.name None (lines_below field.Carried r.carried)

abbrev pub holding_tree : model.Holding → Tree Label
holding_tree h = branch field.Holding h.call_number (Some h.repo) (lines_below field.Carried h.carried)

-- the lines below that of a source
abbrev pub source_fields : model.Source → Branches
source_fields s = text_trees field.Author s.author
    ++ (text_trees field.Publisher s.publisher ++ (map holding_tree s.holdings ++ lines_below field.Carried s.carried))

abbrev pub source_tree : model.Source → Tree Label
source_tree s = branch field.Source s.title None (source_fields s)

abbrev pub citation_tree : model.Citation → Tree Label
citation_tree c = branch field.Citation None (Some c.owner) ((branch field.Source c.page (Some c.source) [] ∷ [])
    ++ (text_trees field.Quality (option_map quality_word c.quality) ++ lines_below field.Carried c.carried))

abbrev pub name_tree : model.Name → Tree Label
name_tree n = branch field.Name (Some n.text) None (lines_below field.Carried n.carried)

abbrev pub person_tree : model.Person → Tree Label
person_tree p = branch field.Person None None (map name_tree p.names
    ++ (text_trees field.Sex (option_map sex_word p.sex) ++ lines_below field.Carried p.carried))

abbrev pub partner_tree : model.Partner → Tree Label
partner_tree p = branch field.Partner (Some (partnership_word p.partnership)) (Some p.person)
    (lines_below field.Side p.carried_by_person ++ lines_below field.Carried p.carried)

abbrev pub child_tree : model.Child → Tree Label
child_tree c = branch field.Child None (Some c.person)
    (lines_below field.Side c.carried_by_person ++ lines_below field.Carried c.carried)

abbrev pub family_tree : model.Family → Tree Label
family_tree f = branch field.Family None None (map partner_tree f.partners
    ++ (map child_tree f.children ++ lines_below field.Carried f.carried))

-- a date and a place stand on one line
abbrev pub place_line : Option (List ℕ) → model.EventPlace → Tree Label
place_line date p = branch field.Date date (Some p.place) (lines_below field.Carried p.carried)

abbrev pub when_trees : Option (List ℕ) → Option model.EventPlace → Branches
when_trees date None = text_trees field.Date date
when_trees date (Some p) = place_line date p ∷ []

abbrev pub participant_tree : model.Participant → Tree Label
participant_tree p = branch field.Participant (Some p.role) (Some p.person) (lines_below field.Carried p.carried)

-- the first line below that of an event has the event's own tag, and its value
abbrev pub tag_tree : model.Event → Tree Label
tag_tree e = node (record { tag = e.tag; text = Some e.value; target = None }) (forest_of [])

abbrev pub event_tree : model.Event → Tree Label
event_tree e = branch field.Event None (Some e.owner) (tag_tree e ∷ (when_trees (option_map date_text e.date) e.place
    ++ (map participant_tree e.participants ++ lines_below field.Carried e.carried)))

abbrev pub link_person : model.Link → ℕ
link_person l = l.person

abbrev pub link_reason : model.Link → List ℕ
link_reason l = l.reason

abbrev pub mention_tree : model.Mention → Tree Label
mention_tree m = branch field.Mention (Some m.name) (option_map link_person m.link)
    (text_trees field.Role (Some (role_word m.role)) ++ text_trees field.Reason (option_map link_reason m.link))

-- a place without carried lines
abbrev pub bare_place : ℕ → model.EventPlace
bare_place n = record { place = n; carried = [] }

-- by what an entry is found among those of its source: its item and its page, or only the item where the page is long
abbrev pub key_words : Item → List ℕ → List ℕ
key_words item page = cond (nat_le (length page) 1000) (decimal item.number ++ (codes " " ++ page))
    (decimal item.number)

abbrev pub entry_tree : model.Entry → Tree Label
entry_tree e = branch field.Entry (Some (entry_kind_word e.kind)) None
    ((branch field.Key (Some (key_words e.item e.page)) (Some e.source) [] ∷ [])
    ++ (text_trees field.Page (Some e.page) ++ (text_trees field.Item (Some (decimal e.item.number))
    ++ (when_trees (option_map date_text e.date) (option_map bare_place e.place)
    ++ (text_trees field.Text (Some e.text) ++ map mention_tree e.mentions)))))

-- the one line below that of another record is the record's own, with its carried lines
abbrev pub own_line : model.Other → Tree Label
own_line o = node (label_for o.tag o.value) (forest_of (map (relabel label_of) o.carried))

abbrev pub other_tree : model.Other → Tree Label
other_tree o = branch field.Other None None (own_line o ∷ [])

abbrev pub record_tree : Record → Tree Label
record_tree (kind.Place p) = place_tree p
record_tree (kind.Repo r) = repo_tree r
record_tree (kind.Source s) = source_tree s
record_tree (kind.Person p) = person_tree p
record_tree (kind.Family f) = family_tree f
record_tree (kind.Citation c) = citation_tree c
record_tree (kind.Event e) = event_tree e
record_tree (kind.Entry e) = entry_tree e
record_tree (kind.Other o) = other_tree o

-- the lines that a record is kept as
abbrev pub stored : Record → List (ℕ × Label)
stored r = flat 0 (record_tree r)
