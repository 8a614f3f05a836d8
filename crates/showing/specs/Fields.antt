-- The fields of a record, each with its name, and its carried lines as GEDCOM: rules of our own.
use Rattle.std.specs.Prelude.{ℕ, List, [], ◌++◌, codes, decimal, Option, Some, None}
use Rattle.std.specs.List.{flat_map}
use Rattle.stored_lines.specs.Line.{Lines}
use Rattle.stored_lines.specs.declared.carried.Value.{Value}
use Rattle.stored_lines.specs.declared.carried.Value.TheVariants as value
use Rattle.record_fields.specs.Words.{entry_kind_word, partnership_word, quality_word, role_word, sex_word}
use Rattle.record_fields.specs.declared.date.Date.{Date}
use Rattle.record_fields.specs.declared.words.Quality.{Quality}
use Rattle.record_fields.specs.declared.words.Sex.{Sex}
use Rattle.record_kinds.specs.Model as model
use Rattle.record_kinds.specs.declared.record.Record.{Record}
use Rattle.record_kinds.specs.declared.record.Record.TheVariants as kind
use Rattle.node_writing.specs.Pages.{page}
use Rattle.sheet_lines.specs.Words.{line, printed}

-- a field with a text, with one that may be missing, and with a number
abbrev pub text_field : List ℕ → List ℕ → List ℕ
text_field label text = line (label ++ (codes ": " ++ printed text))

abbrev pub option_field : List ℕ → Option (List ℕ) → List ℕ
option_field label None = []
option_field label (Some text) = text_field label text

abbrev pub number_field : List ℕ → ℕ → List ℕ
number_field label n = line (label ++ (codes ": " ++ decimal n))

abbrev pub maybe_number_field : List ℕ → Option ℕ → List ℕ
maybe_number_field label None = []
maybe_number_field label (Some n) = number_field label n

-- a number as a cross reference
abbrev pub reference : ℕ → List ℕ
reference n = codes "@" ++ (decimal n ++ codes "@")

-- carried lines, at a level
abbrev pub carried : ℕ → Lines → List ℕ
carried level lines = page reference level lines

-- ---- persons and families
abbrev pub name_field : model.Name → List ℕ
name_field x = text_field (codes "name") x.text ++ carried 2 x.carried

abbrev pub sex_field : Option Sex → List ℕ
sex_field None = []
sex_field (Some s) = text_field (codes "sex") (sex_word s)

abbrev pub person_fields : model.Person → List ℕ
person_fields p = flat_map name_field p.names ++ (sex_field p.sex ++ carried 1 p.carried)

abbrev pub partner_field : model.Partner → List ℕ
partner_field p = number_field (partnership_word p.partnership) p.person
    ++ (carried 2 p.carried ++ carried 2 p.carried_by_person)

abbrev pub child_field : model.Child → List ℕ
child_field c = number_field (codes "child") c.person ++ (carried 2 c.carried ++ carried 2 c.carried_by_person)

abbrev pub family_fields : model.Family → List ℕ
family_fields f = flat_map partner_field f.partners ++ (flat_map child_field f.children ++ carried 1 f.carried)

-- ---- events
abbrev pub date_field : Option Date → List ℕ
date_field None = []
date_field (Some d) = text_field (codes "date") d.text

abbrev pub event_place_field : Option model.EventPlace → List ℕ
event_place_field None = []
event_place_field (Some p) = number_field (codes "place") p.place ++ carried 3 p.carried

abbrev pub participant_field : model.Participant → List ℕ
participant_field p = number_field (codes "with") p.person ++ (text_field (codes "role") p.role ++ carried 3 p.carried)

-- the owner, the tag, the value and the date
abbrev pub own_fields : model.Event → List ℕ
own_fields e = number_field (codes "of") e.owner ++ (text_field (codes "tag") e.tag
    ++ (text_field (codes "value") e.value ++ date_field e.date))

abbrev pub event_fields : model.Event → List ℕ
event_fields e = own_fields e ++ (event_place_field e.place ++ (flat_map participant_field e.participants
    ++ carried 2 e.carried))

-- ---- places, repositories, sources, citations
abbrev pub place_fields : model.Place → List ℕ
place_fields p = text_field (codes "name") p.name ++ (maybe_number_field (codes "within") p.parent
    ++ carried 1 p.carried)

abbrev pub repo_fields : model.Repo → List ℕ
repo_fields r = option_field (codes "name") r.name ++ carried 1 r.carried

abbrev pub holding_field : model.Holding → List ℕ
holding_field h = number_field (codes "repository") h.repo ++ (option_field (codes "call number") h.call_number
    ++ carried 2 h.carried)

abbrev pub source_fields : model.Source → List ℕ
source_fields s = option_field (codes "title") s.title ++ (option_field (codes "author") s.author
    ++ (option_field (codes "publisher") s.publisher ++ (flat_map holding_field s.holdings ++ carried 1 s.carried)))

abbrev pub quality_field : Option Quality → List ℕ
quality_field None = []
quality_field (Some q) = text_field (codes "quality") (quality_word q)

abbrev pub citation_fields : model.Citation → List ℕ
citation_fields c = number_field (codes "of") c.owner ++ (number_field (codes "source") c.source
    ++ (option_field (codes "page") c.page ++ (quality_field c.quality ++ carried 2 c.carried)))

-- ---- register entries, and records of no other kind
abbrev pub link_fields : Option model.Link → List ℕ
link_fields None = []
link_fields (Some l) = number_field (codes "person") l.person ++ text_field (codes "reason") l.reason

abbrev pub mention_fields : model.Mention → List ℕ
mention_fields x = text_field (role_word x.role) x.name ++ link_fields x.link

-- the source, the kind, the page and the item
abbrev pub key_fields : model.Entry → List ℕ
key_fields e = number_field (codes "source") e.source ++ (text_field (codes "kind") (entry_kind_word e.kind)
    ++ (text_field (codes "page") e.page ++ number_field (codes "item") e.item.number))

abbrev pub entry_fields : model.Entry → List ℕ
entry_fields e = key_fields e ++ (date_field e.date ++ (maybe_number_field (codes "place") e.place
    ++ (text_field (codes "text") e.text ++ flat_map mention_fields e.mentions)))

abbrev pub value_field : Value → List ℕ
value_field (value.Text text) = text_field (codes "value") text
value_field (value.Ref n) = number_field (codes "value") n

abbrev pub other_fields : model.Other → List ℕ
other_fields o = text_field (codes "tag") o.tag ++ (value_field o.value ++ carried 1 o.carried)

abbrev pub fields : Record → List ℕ
fields (kind.Person p) = person_fields p
fields (kind.Family f) = family_fields f
fields (kind.Event e) = event_fields e
fields (kind.Place p) = place_fields p
fields (kind.Repo r) = repo_fields r
fields (kind.Source s) = source_fields s
fields (kind.Citation c) = citation_fields c
fields (kind.Entry e) = entry_fields e
fields (kind.Other o) = other_fields o
