-- The page of a pedigree: each person in a box, and below it the father and the mother, as lists in lists. Rules of our
-- own. None where no person is shown.
use Rattle.std.specs.Prelude.{ℕ, zero, suc, List, [], ◌∷◌, ◌++◌, Option, Some, None}
use Rattle.record_fields.specs.declared.words.Partnership.TheVariants as partnership
use Rattle.record_kinds.specs.declared.record.Record.{Record}
use Rattle.record_kinds.specs.declared.record.Record.TheVariants as kind
use Rattle.archive_state.specs.Content.{Records}
use Rattle.sheet_lines.specs.Words.{display_of}
use Rattle.sheets.specs.Gathered.{Gathered, gathered}
use Rattle.sheets.specs.Pedigrees.{parent, words_of}
use Rattle.html_text.specs.declared.names.Element.TheVariants as element
use Rattle.html_parts.specs.declared.class.Class.TheVariants as class
use Rattle.html_parts.specs.declared.part.Part.{Part}
use Rattle.html_parts.specs.declared.part.Part.TheVariants as part
use Rattle.html_parts.specs.declared.route.Route.TheVariants as route
use Rattle.html_parts.specs.Building.{element_parts, link_parts, nested_parts}
use Rattle.html_parts.specs.Frame.{frame_parts}

-- a person by those words; only the words where no person is shown
abbrev pub box : ℕ → List ℕ → Option Record → List Part
box n words (Some (kind.Person p)) = link_parts (route.Person n) words
box n words _ = part.Words words ∷ []

-- a person in a box, and below it a list
abbrev pub boxed : Gathered → ℕ → List Part → List Part
boxed g n below = part.Start element.Li ∷ (box n (words_of g n) (g.at n) ++ (nested_parts below
    ++ part.End element.Li ∷ []))

-- a person, and below it the father and the mother, of so many generations
abbrev pub tree : ℕ → Gathered → Option ℕ → List Part
tree zero g person = []
tree (suc more) g None = []
tree (suc more) g (Some n) =
    boxed g n (tree more g (parent g partnership.Husband n) ++ tree more g (parent g partnership.Wife n))

abbrev pub titled_tree : Gathered → List ℕ → ℕ → ℕ → List Part
titled_tree g title n generations = element_parts element.H1 title
    ++ part.Styled element.Ul class.Tree ∷ (tree generations g (Some n) ++ part.End element.Ul ∷ [])

abbrev pub pedigree_in : List ℕ → Gathered → ℕ → ℕ → Option Record → Option (List Part)
pedigree_in society g n generations (Some (kind.Person p)) =
    Some (frame_parts society (display_of p.names) (titled_tree g (display_of p.names) n generations))
pedigree_in society g n generations _ = None

abbrev pub pedigree_page : Records → List ℕ → ℕ → ℕ → Option (List Part)
pedigree_page m society n generations = pedigree_in society (gathered m) n generations ((gathered m).at n)
