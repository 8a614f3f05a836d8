-- The pages of persons and families: rules of our own. None where no record of the kind is shown.
use Rattle.std.specs.Prelude.{ℕ, List, [], ◌∷◌, ◌++◌, codes, decimal, Option, Some, None}
use Rattle.record_kinds.specs.Model as model
use Rattle.record_kinds.specs.declared.record.Record.{Record}
use Rattle.record_kinds.specs.declared.record.Record.TheVariants as kind
use Rattle.archive_state.specs.Content.{Records}
use Rattle.sheet_lines.specs.Lines.{sex_line}
use Rattle.sheet_lines.specs.Words.{display_of}
use Rattle.sheets.specs.Gathered.{Gathered, gathered}
use Rattle.html_text.specs.declared.names.Element.TheVariants as element
use Rattle.html_parts.specs.declared.class.Class.TheVariants as class
use Rattle.html_parts.specs.declared.part.Part.{Part}
use Rattle.html_parts.specs.declared.part.Part.TheVariants as part
use Rattle.html_parts.specs.declared.route.Route.TheVariants as route
use Rattle.html_parts.specs.Building.{element_parts, link_parts}
use Rattle.html_parts.specs.Frame.{frame_parts}
use Rattle.html_pages.specs.Labels.{label_word}
use Rattle.html_pages.specs.declared.label.Label.TheVariants as label
use Rattle.html_pages.specs.Items.{
  child_item,
  citation_at,
  entry_naming,
  event_at,
  family_at,
  name_item,
  partner_item,
  section,
}

-- the events of a record, and its citations
abbrev pub event_parts : Gathered → ℕ → List Part
event_parts g n = section (label_word label.Events) (event_at g) (g.events n)

abbrev pub citation_parts : Gathered → ℕ → List Part
citation_parts g n = section (label_word label.Sources) (citation_at g) (g.citations n)

abbrev pub owned_parts : Gathered → ℕ → List Part
owned_parts g n = event_parts g n ++ citation_parts g n

-- ---- persons
-- the number and the sex
abbrev pub note_parts : ℕ → model.Person → List Part
note_parts n p = part.Styled element.P class.Note ∷ part.Words (label_word label.Person) ∷ part.Words (decimal n)
    ∷ part.Words (codes ". ") ∷ part.Words (sex_line p.sex) ∷ part.End element.P ∷ []

abbrev pub name_parts : model.Person → List Part
name_parts p = section (label_word label.Names) name_item p.names

-- what is of a person only
abbrev pub own_parts : ℕ → model.Person → List Part
own_parts n p = element_parts element.H1 (display_of p.names)
    ++ (note_parts n p ++ name_parts p)

-- the way to the ancestors
abbrev pub pedigree_parts : ℕ → List Part
pedigree_parts n = part.Start element.P ∷ (link_parts (route.Pedigree n) (label_word label.Pedigree)
    ++ part.End element.P ∷ [])

-- the families where a person is a child, and those where they are a partner
abbrev pub child_parts : Gathered → ℕ → List Part
child_parts g n = section (label_word label.Parents) (family_at g) (g.child_in n)

abbrev pub partner_parts : Gathered → ℕ → List Part
partner_parts g n = section (label_word label.OwnFamilies) (family_at g) (g.partner_in n)

-- the entries that name a person
abbrev pub entry_parts : Gathered → ℕ → List Part
entry_parts g n = section (label_word label.Entries) (entry_naming n g) g.entries

abbrev pub person_parts : Gathered → ℕ → model.Person → List Part
person_parts g n p = own_parts n p ++ (owned_parts g n ++ (child_parts g n ++ (partner_parts g n
    ++ (entry_parts g n ++ pedigree_parts n))))

abbrev pub person_page_in : List ℕ → Gathered → ℕ → Option Record → Option (List Part)
person_page_in society g n (Some (kind.Person p)) =
    Some (frame_parts society (display_of p.names) (person_parts g n p))
person_page_in society g n _ = None

abbrev pub person_page : Records → List ℕ → ℕ → Option (List Part)
person_page m society n = person_page_in society (gathered m) n ((gathered m).at n)

-- ---- families
unfoldable pub family_title : ℕ → List ℕ
family_title n = codes "Family " ++ decimal n

abbrev pub family_partners : (ℕ → Option Record) → model.Family → List Part
family_partners at f = section (label_word label.Partners) (partner_item at) f.partners

abbrev pub family_children : (ℕ → Option Record) → model.Family → List Part
family_children at f = section (label_word label.Children) (child_item at) f.children

abbrev pub family_parts : Gathered → ℕ → model.Family → List Part
family_parts g n f = element_parts element.H1 (family_title n)
    ++ (family_partners g.at f ++ (owned_parts g n ++ family_children g.at f))

abbrev pub family_page_in : List ℕ → Gathered → ℕ → Option Record → Option (List Part)
family_page_in society g n (Some (kind.Family f)) =
    Some (frame_parts society (family_title n) (family_parts g n f))
family_page_in society g n _ = None

abbrev pub family_page : Records → List ℕ → ℕ → Option (List Part)
family_page m society n = family_page_in society (gathered m) n ((gathered m).at n)
