-- Links of pages: each goes to what is shown, and stands as a text where nothing is. Rules of our own.
use Rattle.std.specs.Prelude.{ℕ, List, [], ◌∷◌, codes, Option, Some}
use Rattle.record_kinds.specs.declared.record.Record.{Record}
use Rattle.record_kinds.specs.declared.record.Record.TheVariants as kind
use Rattle.sheet_lines.specs.Words.{display_of}
use Rattle.html_parts.specs.declared.part.Part.{Part}
use Rattle.html_parts.specs.declared.part.Part.TheVariants as part
use Rattle.html_parts.specs.declared.route.Route.TheVariants as route
use Rattle.html_parts.specs.Building.{link_parts}

-- a person by the display; what is no person as one without names
abbrev pub person_link : ℕ → Option Record → List Part
person_link n (Some (kind.Person p)) = link_parts (route.Person n) (display_of p.names)
person_link n _ = part.Words (codes "?") ∷ []

-- a register by a text
abbrev pub register_link : ℕ → List ℕ → Option Record → List Part
register_link n text (Some (kind.Source s)) = link_parts (route.Register n) text
register_link n text _ = part.Words text ∷ []
