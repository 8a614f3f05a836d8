-- The pages of a register: rules of our own. None where no source is shown, or outside of the pages.
use Rattle.std.specs.Prelude.{
  ℕ,
  ◌==◌,
  Bool,
  false,
  List,
  [],
  ◌∷◌,
  ◌++◌,
  length,
  codes,
  decimal,
  option_map,
  Option,
  Some,
  None,
}
use Rattle.std.specs.List.{filter, flat_map}
use Rattle.record_fields.specs.Words.{role_word}
use Rattle.record_kinds.specs.Model as model
use Rattle.record_kinds.specs.declared.record.Record.{Record}
use Rattle.record_kinds.specs.declared.record.Record.TheVariants as kind
use Rattle.archive_state.specs.Content.{Records}
use Rattle.sheet_lines.specs.Lines.{role_words, title_words}
use Rattle.sheet_lines.specs.Words.{printed}
use Rattle.sheets.specs.Gathered.{Gathered, gathered}
use Rattle.html_text.specs.declared.names.Element.TheVariants as element
use Rattle.html_parts.specs.declared.class.Class.TheVariants as class
use Rattle.html_parts.specs.declared.part.Part.{Part}
use Rattle.html_parts.specs.declared.part.Part.TheVariants as part
use Rattle.html_parts.specs.declared.route.Route.TheVariants as route
use Rattle.html_parts.specs.Building.{element_parts, link_parts}
use Rattle.html_parts.specs.Frame.{frame_parts}
use Rattle.html_pages.specs.Items.{entry_words}
use Rattle.html_lists.specs.Labels.{label_word}
use Rattle.html_lists.specs.Paging.{last_page, page_of, page_parts}
use Rattle.html_lists.specs.declared.label.Label.TheVariants as label
use Rattle.html_lists.specs.declared.paging.Paged.TheVariants as paged

abbrev pub printed_text : List ℕ → List ℕ
printed_text text = printed text

-- ---- the entries of a source
abbrev pub is_of : ℕ → Option Record → Bool
is_of source (Some (kind.Entry e)) = e.source == source
is_of source _ = false

abbrev pub entries_of : Gathered → ℕ → List ℕ
entries_of g source = filter (λ k. is_of source (g.at k)) g.entries

-- ---- who is named
-- a person by a name; only the name where none is shown
abbrev pub name_link : ℕ → List ℕ → Option Record → List Part
name_link n name (Some (kind.Person p)) = link_parts (route.Person n) name
name_link n name _ = part.Words name ∷ []

-- who that is, and why
abbrev pub named_parts : (ℕ → Option Record) → List ℕ → Option model.Link → List Part
named_parts at name None = part.Words name ∷ []
named_parts at name (Some l) = name_link l.person name (at l.person) ++ part.Words (role_words l.reason) ∷ []

abbrev pub mention_item : (ℕ → Option Record) → model.Mention → List Part
mention_item at x = part.Start element.Li ∷ part.Words (role_word x.role) ∷ part.Words (codes ": ")
    ∷ (named_parts at x.name x.link ++ part.End element.Li ∷ [])

abbrev pub mentions_parts : (ℕ → Option Record) → List model.Mention → List Part
mentions_parts at xs = part.Start element.Ul ∷ (flat_map (mention_item at) xs ++ part.End element.Ul ∷ [])

-- ---- an entry
abbrev pub place_parts : (ℕ → List ℕ) → Option ℕ → List Part
place_parts path None = []
place_parts path (Some place) = element_parts element.P (path place)

-- the transcription, where there is one
abbrev pub text_parts : List ℕ → List Part
text_parts [] = []
text_parts (b ∷ bs) = part.Styled element.P class.Text ∷ part.Words (b ∷ bs) ∷ part.End element.P ∷ []

-- an entry with its place, its transcription and its mentions; of another record nothing
abbrev pub entry_item : Gathered → Option Record → List Part
entry_item g (Some (kind.Entry e)) = part.Start element.Li ∷ part.Words (entry_words e)
    ∷ (place_parts g.path e.place ++ (text_parts e.text ++ (mentions_parts g.at e.mentions
    ++ part.End element.Li ∷ [])))
entry_item g _ = []

abbrev pub entry_at : Gathered → ℕ → List Part
entry_at g k = entry_item g (g.at k)

-- ---- a page
-- the number of the register, and how many entries it has
abbrev pub note_parts : ℕ → ℕ → List Part
note_parts n count = part.Styled element.P class.Note ∷ part.Words (label_word label.Register)
    ∷ part.Words (decimal n) ∷ part.Words (label_word label.Entries) ∷ part.Words (decimal count)
    ∷ part.End element.P ∷ []

-- a page of a register with that title and so many entries
abbrev pub register_parts : Gathered → List ℕ → ℕ → ℕ → ℕ → List ℕ → List Part
register_parts g title n page count shown = element_parts element.H1 title ++ (note_parts n count
    ++ page_parts (paged.Register n) (record { page = page; last = last_page count }) (flat_map (entry_at g) shown))

-- a page of these entries
abbrev pub entries_page : List ℕ → Gathered → ℕ → ℕ → List ℕ → List ℕ → Option (List Part)
entries_page society g n page title entries = option_map
    (λ shown. frame_parts society title (register_parts g title n page (length entries) shown)) (page_of page entries)

abbrev pub register_in : List ℕ → Gathered → ℕ → ℕ → Option Record → Option (List Part)
register_in society g n page (Some (kind.Source s)) =
    entries_page society g n page (title_words s.title) (entries_of g n)
register_in society g n page _ = None

abbrev pub register_page : Records → List ℕ → ℕ → ℕ → Option (List Part)
register_page m society n page = register_in society (gathered m) n page ((gathered m).at n)
