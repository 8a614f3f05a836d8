-- The items of the lists of pages: rules of our own.
use Rattle.std.specs.Prelude.{
  ℕ,
  ◌==◌,
  Bool,
  false,
  if◌then◌else◌,
  List,
  [],
  ◌∷◌,
  ◌++◌,
  codes,
  decimal,
  Option,
  Some,
  None,
}
use Rattle.std.specs.List.{flat_map, list_any}
use Rattle.record_fields.specs.Words.{entry_kind_word}
use Rattle.record_text.specs.Naming.{displayed}
use Rattle.record_kinds.specs.Model as model
use Rattle.record_kinds.specs.declared.record.Record.{Record}
use Rattle.record_kinds.specs.declared.record.Record.TheVariants as kind
use Rattle.sheet_lines.specs.Words.{dated, printed}
use Rattle.sheet_lines.specs.Lines.{citation_line, event_line, own_source, partner_word, role_words}
use Rattle.sheets.specs.Gathered.{Gathered}
use Rattle.sheets.specs.Owned.{place_words}
use Rattle.html_text.specs.declared.names.Element.TheVariants as element
use Rattle.html_parts.specs.declared.part.Part.{Part}
use Rattle.html_parts.specs.declared.part.Part.TheVariants as part
use Rattle.html_parts.specs.declared.route.Route.TheVariants as route
use Rattle.html_parts.specs.Building.{element_parts, section_parts}
use Rattle.html_pages.specs.Labels.{label_word}
use Rattle.html_pages.specs.declared.label.Label.TheVariants as label
use Rattle.html_pages.specs.Links.{person_link, register_link}

-- a heading and a list of items, where they have parts
abbrev pub section : {A : Type 0} → List ℕ → (A → List Part) → List A → List Part
section heading parts items = section_parts heading (flat_map parts items)

-- an item of a list
abbrev pub item : List Part → List Part
item parts = part.Start element.Li ∷ (parts ++ part.End element.Li ∷ [])

-- ---- names
abbrev pub name_item : model.Name → List Part
name_item x = element_parts element.Li (displayed x.text)

-- ---- citations
-- a citation, which leads to the register of its source; of another record nothing
abbrev pub citation_item : (ℕ → Option Record) → Option Record → List Part
citation_item at (Some (kind.Citation c)) =
    item (register_link c.source (citation_line own_source c) (at c.source))
citation_item at _ = []

abbrev pub citation_at : Gathered → ℕ → List Part
citation_at g k = citation_item g.at (g.at k)

-- the citations of a record
abbrev pub citation_items : Gathered → ℕ → List Part
citation_items g n = flat_map (citation_at g) (g.citations n)

-- ---- events
abbrev pub participant_item : (ℕ → Option Record) → model.Participant → List Part
participant_item at p = part.Start element.Li ∷ (person_link p.person (at p.person)
    ++ part.Words (role_words p.role) ∷ part.End element.Li ∷ [])

-- an event, and below it who took part, and its citations; of another record nothing
abbrev pub event_item : Gathered → ℕ → Option Record → List Part
event_item g k (Some (kind.Event e)) = part.Start element.Li ∷ part.Words (event_line (place_words g.path e.place) e)
    ∷ part.Start element.Ul ∷ (flat_map (participant_item g.at) e.participants
    ++ (citation_items g k ++ part.End element.Ul ∷ part.End element.Li ∷ []))
event_item g k _ = []

abbrev pub event_at : Gathered → ℕ → List Part
event_at g k = event_item g k (g.at k)

-- ---- families
abbrev pub partner_item : (ℕ → Option Record) → model.Partner → List Part
partner_item at p = part.Start element.Li ∷ part.Words (partner_word p.partnership)
    ∷ (person_link p.person (at p.person) ++ part.End element.Li ∷ [])

abbrev pub child_item : (ℕ → Option Record) → model.Child → List Part
child_item at c = part.Start element.Li ∷ part.Words (label_word label.Child)
    ∷ (person_link c.person (at c.person) ++ part.End element.Li ∷ [])

abbrev pub family_link : ℕ → List Part
family_link k = part.Link (route.Family k) ∷ part.Words (label_word label.Family) ∷ part.Words (decimal k)
    ∷ part.End element.A ∷ []

-- a family, and below it who is in it; of another record nothing
abbrev pub family_item : (ℕ → Option Record) → ℕ → Option Record → List Part
family_item at k (Some (kind.Family f)) = part.Start element.Li ∷ (family_link k ++ part.Start element.Ul
    ∷ (flat_map (partner_item at) f.partners ++ (flat_map (child_item at) f.children
    ++ part.End element.Ul ∷ part.End element.Li ∷ [])))
family_item at k _ = []

abbrev pub family_at : Gathered → ℕ → List Part
family_at g k = family_item g.at k (g.at k)

-- ---- entries that name a person
-- whether the mention is linked to the person
abbrev pub is_of : ℕ → Option model.Link → Bool
is_of person None = false
is_of person (Some link) = link.person == person

abbrev pub is_named : ℕ → model.Mention → Bool
is_named person x = is_of person x.link

-- the page, the number on it, the kind and the date
unfoldable pub entry_words : model.Entry → List ℕ
entry_words e = codes "Page " ++ (printed e.page ++ (codes ", no. " ++ (decimal e.item.number ++ (codes ": "
    ++ (entry_kind_word e.kind ++ dated (codes ", ") e.date)))))

-- an entry that names the person, which leads to its register; of another record nothing
abbrev pub entry_item : (ℕ → Option Record) → ℕ → Option Record → List Part
entry_item at person (Some (kind.Entry e)) =
    if list_any (is_named person) e.mentions then item (register_link e.source (entry_words e) (at e.source)) else []
entry_item at person _ = []

abbrev pub entry_naming : ℕ → Gathered → ℕ → List Part
entry_naming person g k = entry_item g.at person (g.at k)
