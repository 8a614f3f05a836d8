-- The pages that say what went wrong (RFC 9110, section 15).
use Rattle.std.specs.Prelude.{ℕ, List, [], ◌++◌, ◌∷◌, codes, ◌==◌, unwrap_or, if◌then◌else◌}
use Rattle.http.specs.StatusCode.{reason_phrase}
use Rattle.html_text.specs.declared.names.Element.TheVariants as element
use Rattle.html_parts.specs.declared.part.Part.{Part}
use Rattle.html_parts.specs.declared.part.Part.TheVariants as part
use Rattle.html_parts.specs.declared.route.Route.TheVariants as route
use Rattle.html_parts.specs.Building.{element_parts, link_parts}

-- the canonical phrase of a status
unfoldable pub phrase_of : ℕ → List ℕ
phrase_of status = unwrap_or (reason_phrase status) []

-- what happened, in words
unfoldable pub error_words : ℕ → List ℕ
error_words status =
    if status == 404 then codes "There is no such page, or nothing is shown of what it would be of."
    else (if status == 405 then codes "This room only shows pages: it takes no other request than GET and HEAD."
    else (if status == 431 then codes "The head of the request is too large."
    else codes "The request is none that this room understands."))

-- the way to the first page
unfoldable pub home_words : List ℕ
home_words = codes "To the first page"

abbrev pub home_parts : List Part
home_parts = part.Start element.P ∷ (link_parts route.Home home_words ++ part.End element.P ∷ [])

unfoldable pub error_parts : ℕ → List Part
error_parts status = element_parts element.H1 (phrase_of status)
    ++ (element_parts element.P (error_words status) ++ home_parts)
