-- The pages of a surname: rules of our own. None outside of the pages.
use Rattle.std.specs.Prelude.{ℕ, List, [], ◌∷◌, ◌++◌, length, codes, decimal, option_map, Option}
use Rattle.std.specs.List.{flat_map}
use Rattle.archive_state.specs.Content.{Records}
use Rattle.sheets.specs.Gathered.{Gathered, gathered}
use Rattle.html_text.specs.declared.names.Element.TheVariants as element
use Rattle.html_parts.specs.declared.class.Class.TheVariants as class
use Rattle.html_parts.specs.declared.part.Part.{Part}
use Rattle.html_parts.specs.declared.part.Part.TheVariants as part
use Rattle.html_parts.specs.Building.{element_parts}
use Rattle.html_parts.specs.Frame.{frame_parts}
use Rattle.html_pages.specs.Called.{called}
use Rattle.html_pages.specs.Items.{item}
use Rattle.html_pages.specs.Links.{person_link}
use Rattle.html_lists.specs.Labels.{label_word}
use Rattle.html_lists.specs.Paging.{last_page, page_of, page_parts}
use Rattle.html_lists.specs.declared.label.Label.{Label}
use Rattle.html_lists.specs.declared.label.Label.TheVariants as label
use Rattle.html_lists.specs.declared.paging.Paged.TheVariants as paged

-- a surname as a title
abbrev pub titled : List ℕ → List ℕ
titled [] = codes "?"
titled (b ∷ bs) = b ∷ bs

-- how many there are
abbrev pub counted_parts : Label → ℕ → List Part
counted_parts l count = part.Styled element.P class.Note ∷ part.Words (label_word l) ∷ part.Words (decimal count)
    ∷ part.End element.P ∷ []

abbrev pub person_at : Gathered → ℕ → List Part
person_at g n = item (person_link n (g.at n))

-- a page of a surname of so many persons
abbrev pub surname_parts : Gathered → List ℕ → ℕ → ℕ → List ℕ → List Part
surname_parts g of page count shown = element_parts element.H1 (titled of) ++ (counted_parts label.Persons count
    ++ page_parts (paged.Surname of) (record { page = page; last = last_page count }) (flat_map (person_at g) shown))

abbrev pub surname_in : List ℕ → Gathered → List ℕ → ℕ → List ℕ → Option (List Part)
surname_in society g of page numbers = option_map
    (λ shown. frame_parts society (titled of) (surname_parts g of page (length numbers) shown)) (page_of page numbers)

abbrev pub surname_page : Records → List ℕ → List ℕ → ℕ → Option (List Part)
surname_page m society of page = surname_in society (gathered m) of page (called (gathered m) of)
