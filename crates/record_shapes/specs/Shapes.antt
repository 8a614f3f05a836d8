-- The lines of a record in a file (The GEDCOM Standard Release 5.5.1, chapter 2, record structures), with its events
-- and citations below it. A pointer is the number of the record that it names.
use Rattle.std.specs.Prelude.{ℕ, List, [], ◌∷◌, ◌++◌, map, codes, Option, Some, None, option_map, decimal}
use Rattle.std.specs.List.{flat_map}
use Rattle.stored_lines.specs.Tree.{Tree, node, forest_of, list_of}
use Rattle.stored_lines.specs.Line.{Line, Lines}
use Rattle.stored_lines.specs.declared.carried.Value.{Value}
use Rattle.stored_lines.specs.declared.carried.Value.TheVariants as value
use Rattle.record_kinds.specs.Model as model
use Rattle.record_kinds.specs.declared.record.Record.{Record}
use Rattle.record_kinds.specs.declared.record.Record.TheVariants as kind
use Rattle.record_fields.specs.Dated.{date_text}
use Rattle.record_fields.specs.Words.{quality_word, sex_word, entry_kind_word, role_word}
use Rattle.record_fields.specs.declared.words.Partnership.{Partnership}
use Rattle.record_fields.specs.declared.words.Partnership.TheVariants as partnership

-- a family where a person is a member, with the carried lines of the person's side
pub record Side : Type 0 where
  pub family : ℕ
  pub carried : Lines

-- what the lines of a record show of others: the path of a place; the families where a person is a child, and those
-- where one is a partner
pub record Around : Type 0 where
  pub path : ℕ → List ℕ
  pub child_in : ℕ → List Side
  pub partner_in : ℕ → List Side

-- a line with a tag, a value and the lines below it
abbrev pub line : List ℕ → Value → Lines → Tree Line
line tag v below = node (record { tag = tag; value = v }) (forest_of below)

abbrev pub text_line : List ℕ → List ℕ → Tree Line
text_line tag text = line tag (value.Text text) []

abbrev pub pointer_line : List ℕ → ℕ → Lines → Tree Line
pointer_line tag n below = line tag (value.Ref n) below

-- a line that may be missing
abbrev pub maybe : Option (Tree Line) → Lines
maybe None = []
maybe (Some t) = t ∷ []

-- the line of a text that may be missing
abbrev pub text_lines : List ℕ → Option (List ℕ) → Lines
text_lines tag o = maybe (option_map (text_line tag) o)

-- what is below each kind of record: its fields in order, and then its carried lines
abbrev pub repo_lines : model.Repo → Lines
repo_lines r = text_lines (codes "NAME") r.name ++ r.carried

abbrev pub holding_line : model.Holding → Tree Line
holding_line h = pointer_line (codes "REPO") h.repo (text_lines (codes "CALN") h.call_number ++ h.carried)

abbrev pub source_lines : model.Source → Lines
source_lines s = text_lines (codes "TITL") s.title ++ (text_lines (codes "AUTH") s.author
    ++ (text_lines (codes "PUBL") s.publisher ++ (map holding_line s.holdings ++ s.carried)))

-- the line that names a place, where there is one
abbrev pub loc_line : ℕ → Tree Line
loc_line n = pointer_line (codes "_LOC") n []

abbrev pub loc_lines : Option ℕ → Lines
loc_lines o = maybe (option_map loc_line o)

abbrev pub place_lines : model.Place → Lines
place_lines p = text_line (codes "NAME") p.name ∷ (loc_lines p.parent ++ p.carried)

abbrev pub citation_line : model.Citation → Tree Line
citation_line c = pointer_line (codes "SOUR") c.source
    (text_lines (codes "PAGE") c.page ++ (text_lines (codes "QUAY") (option_map quality_word c.quality) ++ c.carried))

-- the line of a citation, of what a record owns
abbrev pub citation_part : Tree Record → Lines
citation_part (node (kind.Citation c) f) = citation_line c ∷ []
citation_part (node _ f) = []

abbrev pub citation_lines : List (Tree Record) → Lines
citation_lines ts = flat_map citation_part ts

-- the place of an event: its path, the line that names it, and what is carried there
abbrev pub event_place_line : Around → model.EventPlace → Tree Line
event_place_line a p = line (codes "PLAC") (value.Text (a.path p.place)) (loc_line p.place ∷ p.carried)

abbrev pub event_place_lines : Around → Option model.EventPlace → Lines
event_place_lines a o = maybe (option_map (event_place_line a) o)

-- an empty role has no line
abbrev pub role_said : List ℕ → Option (List ℕ)
role_said [] = None
role_said (b ∷ bs) = Some (b ∷ bs)

abbrev pub role_lines : List ℕ → Lines
role_lines role = text_lines (codes "_ROLE") (role_said role)

abbrev pub participant_line : model.Participant → Tree Line
participant_line p = pointer_line (codes "_PART") p.person (role_lines p.role ++ p.carried)

abbrev pub event_lines : Around → model.Event → List (Tree Record) → Lines
event_lines a e under = text_lines (codes "DATE") (option_map date_text e.date) ++ (event_place_lines a e.place
    ++ (map participant_line e.participants ++ (citation_lines under ++ e.carried)))

-- the line of an event, of what a record owns
abbrev pub event_part : Around → Tree Record → Lines
event_part a (node (kind.Event e) f) = line e.tag (value.Text e.value) (event_lines a e (list_of f)) ∷ []
event_part a (node _ f) = []

abbrev pub events_below : Around → List (Tree Record) → Lines
events_below a ts = flat_map (event_part a) ts

abbrev pub name_line : model.Name → Tree Line
name_line n = line (codes "NAME") (value.Text n.text) n.carried

abbrev pub side_line : List ℕ → Side → Tree Line
side_line tag s = pointer_line tag s.family s.carried

abbrev pub person_lines : Around → ℕ → model.Person → List (Tree Record) → Lines
person_lines a n p under = map name_line p.names
    ++ (text_lines (codes "SEX") (option_map sex_word p.sex) ++ (events_below a under
    ++ (map (side_line (codes "FAMC")) (a.child_in n) ++ (map (side_line (codes "FAMS")) (a.partner_in n)
    ++ (citation_lines under ++ p.carried)))))

abbrev pub partner_tag : Partnership → List ℕ
partner_tag partnership.Husband = codes "HUSB"
partner_tag partnership.Wife = codes "WIFE"

abbrev pub partner_line : model.Partner → Tree Line
partner_line p = pointer_line (partner_tag p.partnership) p.person p.carried

abbrev pub child_line : model.Child → Tree Line
child_line c = pointer_line (codes "CHIL") c.person c.carried

abbrev pub family_lines : Around → model.Family → List (Tree Record) → Lines
family_lines a f under = map partner_line f.partners ++ (map child_line f.children
    ++ (events_below a under ++ (citation_lines under ++ f.carried)))

-- a register entry: rules of our own. Its lines are exactly these, in this order
abbrev pub entry_place_lines : Around → Option ℕ → Lines
entry_place_lines a None = []
entry_place_lines a (Some n) = line (codes "PLAC") (value.Text (a.path n)) (pointer_line (codes "_LOC") n [] ∷ []) ∷ []

abbrev pub link_lines : Option model.Link → Lines
link_lines None = []
link_lines (Some l) = pointer_line (codes "_LINK") l.person (text_line (codes "_WHY") l.reason ∷ []) ∷ []

abbrev pub mention_line : model.Mention → Tree Line
mention_line m = line (codes "_MENT") (value.Text m.name)
    (text_line (codes "_ROLE") (role_word m.role) ∷ link_lines m.link)

abbrev pub entry_lines : Around → model.Entry → Lines
entry_lines a e = pointer_line (codes "SOUR") e.source [] ∷ (text_line (codes "PAGE") e.page
    ∷ (text_line (codes "_ITEM") (decimal e.item.number) ∷ (text_lines (codes "DATE") (option_map date_text e.date)
    ++ (entry_place_lines a e.place ++ (text_line (codes "TEXT") e.text ∷ map mention_line e.mentions)))))

-- the line of a record with what it owns and all below it. An event or a citation has its line below another record
abbrev pub shape_of : Around → ℕ → Record → List (Tree Record) → Tree Line
shape_of a n (kind.Place p) under = line (codes "_LOC") (value.Text []) (place_lines p)
shape_of a n (kind.Repo r) under = line (codes "REPO") (value.Text []) (repo_lines r)
shape_of a n (kind.Source s) under = line (codes "SOUR") (value.Text []) (source_lines s)
shape_of a n (kind.Person p) under = line (codes "INDI") (value.Text []) (person_lines a n p under)
shape_of a n (kind.Family f) under = line (codes "FAM") (value.Text []) (family_lines a f under)
shape_of a n (kind.Citation c) under = citation_line c
shape_of a n (kind.Event e) under = line e.tag (value.Text e.value) (event_lines a e under)
shape_of a n (kind.Entry e) under = line (codes "_REG") (value.Text (entry_kind_word e.kind)) (entry_lines a e)
shape_of a n (kind.Other o) under = line o.tag o.value o.carried

abbrev pub shape : Around → ℕ → Tree Record → Tree Line
shape a n (node r f) = shape_of a n r (list_of f)
