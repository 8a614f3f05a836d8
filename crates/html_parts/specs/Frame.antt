-- What each page has around its own parts: the head (HTML Living Standard, section 4.2), and the way to the first page.
use Rattle.std.specs.Prelude.{ℕ, List, [], ◌∷◌, ◌++◌, codes}
use Rattle.html_text.specs.declared.names.Element.TheVariants as element
use Rattle.html_parts.specs.declared.part.Part.{Part}
use Rattle.html_parts.specs.declared.part.Part.TheVariants as part
use Rattle.html_parts.specs.declared.route.Route.TheVariants as route
use Rattle.html_parts.specs.Building.{link_parts}

-- the title of the page, and the name of the society
abbrev pub title_parts : List ℕ → List ℕ → List Part
title_parts society title = part.Start element.Title ∷ part.Words title ∷ part.Words (codes " - ")
    ∷ part.Words society ∷ part.End element.Title ∷ []

abbrev pub head_parts : List ℕ → List ℕ → List Part
head_parts society title = part.Language ∷ part.Start element.Head ∷ part.Charset ∷ part.Viewport
    ∷ (title_parts society title ++ part.Stylesheet ∷ part.End element.Head ∷ [])

-- the society's name leads to the first page
abbrev pub nav_parts : List ℕ → List Part
nav_parts society = part.Start element.Nav ∷ (link_parts route.Home society ++ part.End element.Nav ∷ [])

-- what comes before and after the parts of the page itself
abbrev pub front_parts : List ℕ → List ℕ → List Part
front_parts society title = head_parts society title ++ part.Start element.Body
    ∷ (nav_parts society ++ part.Start element.Main ∷ [])

abbrev pub end_parts : List Part
end_parts = part.End element.Main ∷ part.End element.Body ∷ part.End element.Html ∷ []

-- a whole page
abbrev pub frame_parts : List ℕ → List ℕ → List Part → List Part
frame_parts society title main = front_parts society title ++ (main ++ end_parts)
