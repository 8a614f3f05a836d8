-- Pieces of pages: an element, a link, a section with a list.
use Rattle.std.specs.Prelude.{ℕ, Bool, true, false, List, [], ◌∷◌, ◌++◌, codes}
use Rattle.html_text.specs.declared.names.Element.{Element}
use Rattle.html_text.specs.declared.names.Element.TheVariants as element
use Rattle.html_parts.specs.declared.part.Part.{Part}
use Rattle.html_parts.specs.declared.part.Part.TheVariants as part
use Rattle.html_parts.specs.declared.route.Route.{Route}

-- an element with a text in it
abbrev pub element_parts : Element → List ℕ → List Part
element_parts e text = part.Start e ∷ part.Words text ∷ part.End e ∷ []

-- a link with a text
abbrev pub link_parts : Route → List ℕ → List Part
link_parts route text = part.Link route ∷ part.Words text ∷ part.End element.A ∷ []

-- the form of a search, with what is searched for
unfoldable pub button_word : List ℕ
button_word = codes "Search"

abbrev pub form_parts : List ℕ → List Part
form_parts text = part.Form ∷ part.Field text ∷ (element_parts element.Button button_word
    ++ part.End element.Form ∷ [])

abbrev pub is_nil : List Part → Bool
is_nil [] = true
is_nil (p ∷ ps) = false

-- a heading and a list of items, where there are some
abbrev pub section_parts : List ℕ → List Part → List Part
section_parts heading [] = []
section_parts heading (p ∷ ps) = part.Start element.Section ∷ (element_parts element.H2 heading
    ++ part.Start element.Ul ∷ ((p ∷ ps) ++ part.End element.Ul ∷ part.End element.Section ∷ []))

-- a list in an item of another list, where it has items
abbrev pub nested_parts : List Part → List Part
nested_parts [] = []
nested_parts (p ∷ ps) = part.Start element.Ul ∷ ((p ∷ ps) ++ part.End element.Ul ∷ [])
