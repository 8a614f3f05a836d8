-- Pages of 50 items: rules of our own.
use Rattle.std.specs.Prelude.{
  ℕ,
  ◌+◌,
  ◌-◌,
  ◌*◌,
  ◌/◌,
  ◌&&◌,
  Bool,
  nat_le,
  nat_lt,
  if◌then◌else◌,
  List,
  [],
  ◌∷◌,
  ◌++◌,
  length,
  take,
  drop,
  codes,
  decimal,
  Option,
  Some,
  None,
}
use Rattle.html_text.specs.declared.names.Element.TheVariants as element
use Rattle.html_parts.specs.declared.class.Class.TheVariants as class
use Rattle.html_parts.specs.declared.part.Part.{Part}
use Rattle.html_parts.specs.declared.part.Part.TheVariants as part
use Rattle.html_parts.specs.declared.route.Route.{Route}
use Rattle.html_parts.specs.declared.route.Route.TheVariants as route
use Rattle.html_parts.specs.Building.{link_parts}
use Rattle.html_lists.specs.declared.paging.Paged.{Paged}
use Rattle.html_lists.specs.declared.paging.Paged.TheVariants as paged
use Rattle.html_lists.specs.declared.paging.Place.{Place}

-- the last page of so many items; there is a first one without any
abbrev pub last_page : ℕ → ℕ
last_page count = (count - 1) / 50 + 1

abbrev pub first_of : {A : Type 0} → List A → List A
first_of items = take 50 items

-- there is such a page of so many items
abbrev pub is_page : ℕ → ℕ → Bool
is_page page count = nat_le 1 page && nat_le page (last_page count)

-- the items of a page; none outside 1 to the last
abbrev pub page_of : {A : Type 0} → ℕ → List A → Option (List A)
page_of page items = if is_page page (length items) then Some (first_of (drop (50 * (page - 1)) items)) else None

-- where a page of the list is
abbrev pub route_of : Paged → ℕ → Route
route_of (paged.Register n) page = route.RegisterPage n page
route_of (paged.Surname surname) page = route.SurnamePage surname page
route_of (paged.Search words) page = route.SearchPage words page

unfoldable pub before_word : List ℕ
before_word = codes "Previous page"

unfoldable pub after_word : List ℕ
after_word = codes "Next page"

unfoldable pub place_words : Place → List ℕ
place_words at = codes "Page " ++ (decimal at.page ++ (codes " of " ++ (decimal at.last ++ codes ". ")))

abbrev pub place_parts : Place → List Part
place_parts at = part.Words (place_words at) ∷ []

-- the ways to the page before and to the page after, where there are such pages
abbrev pub before_parts : Paged → ℕ → List Part
before_parts of page = if nat_lt 1 page then link_parts (route_of of (page - 1)) before_word else []

abbrev pub after_parts : Paged → Place → List Part
after_parts of at = if nat_lt at.page at.last then link_parts (route_of of (at.page + 1)) after_word else []

-- a space between the two ways, where there are both
abbrev pub between_parts : Place → List Part
between_parts at = if nat_lt 1 at.page && nat_lt at.page at.last then part.Words (codes " ") ∷ [] else []

-- which page this is, and these ways
abbrev pub step_parts : Paged → Place → List Part
step_parts of at = part.Styled element.P class.Pages ∷ (place_parts at ++ (before_parts of at.page
    ++ (between_parts at ++ (after_parts of at ++ part.End element.P ∷ []))))

-- the items of a page of a list, and these
abbrev pub page_parts : Paged → Place → List Part → List Part
page_parts of at items = part.Start element.Ul ∷ (items ++ part.End element.Ul ∷ step_parts of at)
