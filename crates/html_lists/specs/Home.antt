-- The first page: rules of our own.
use Rattle.std.specs.Prelude.{ℕ, List, [], ◌∷◌, ◌++◌, length, decimal, Option, Some}
use Rattle.record_kinds.specs.declared.record.Record.{Record}
use Rattle.record_kinds.specs.declared.record.Record.TheVariants as kind
use Rattle.archive_state.specs.Content.{Records}
use Rattle.sheet_lines.specs.Lines.{title_words}
use Rattle.sheets.specs.Gathered.{Gathered, gathered}
use Rattle.html_text.specs.declared.names.Element.TheVariants as element
use Rattle.html_parts.specs.declared.part.Part.{Part}
use Rattle.html_parts.specs.declared.part.Part.TheVariants as part
use Rattle.html_parts.specs.declared.route.Route.TheVariants as route
use Rattle.html_parts.specs.Building.{element_parts, form_parts, link_parts}
use Rattle.html_parts.specs.Frame.{frame_parts}
use Rattle.html_pages.specs.Items.{item, section}
use Rattle.html_lists.specs.Labels.{label_word}
use Rattle.html_lists.specs.Letters.{surnames_parts}
use Rattle.html_lists.specs.declared.label.Label.{Label}
use Rattle.html_lists.specs.declared.label.Label.TheVariants as label

-- ---- what is counted
abbrev pub count_item : Label → ℕ → List Part
count_item l n = part.Start element.Li ∷ part.Words (label_word l) ∷ part.Words (decimal n) ∷ part.End element.Li ∷ []

-- how many persons, families and registers are shown
abbrev pub counts_parts : Gathered → List Part
counts_parts g = part.Start element.Ul ∷ (count_item label.Persons (length g.persons)
    ++ (count_item label.Families (length g.families) ++ (count_item label.Sources (length g.sources)
    ++ part.End element.Ul ∷ [])))

-- ---- registers
-- a register by its title; of another record nothing
abbrev pub register_item : ℕ → Option Record → List Part
register_item k (Some (kind.Source s)) = item (link_parts (route.Register k) (title_words s.title))
register_item k _ = []

abbrev pub register_at : Gathered → ℕ → List Part
register_at g k = register_item k (g.at k)

abbrev pub registers_parts : Gathered → List Part
registers_parts g = section (label_word label.Registers) (register_at g) g.sources

-- ---- the page
-- the registers by number, and the surnames by letter
abbrev pub lists_parts : Gathered → List Part
lists_parts g = registers_parts g ++ surnames_parts g

-- the society's name, the field of a search, the counts, and these lists
abbrev pub home_parts : Gathered → List ℕ → List Part
home_parts g society = element_parts element.H1 society ++ (form_parts [] ++ (counts_parts g ++ lists_parts g))

abbrev pub home_page : Records → List ℕ → List Part
home_page m society = frame_parts society (label_word label.Home) (home_parts (gathered m) society)
