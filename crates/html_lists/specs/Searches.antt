-- The pages of a search: rules of our own. None outside of the pages.
use Rattle.std.specs.Prelude.{
  ℕ,
  Bool,
  false,
  List,
  [],
  ◌∷◌,
  ◌++◌,
  length,
  chars,
  option_map,
  Option,
  Some,
  None,
}
use Rattle.std.specs.List.{filter, flat_map}
use Rattle.record_kinds.specs.Model as model
use Rattle.record_kinds.specs.declared.record.Record.{Record}
use Rattle.record_kinds.specs.declared.record.Record.TheVariants as kind
use Rattle.archive_state.specs.Content.{Records}
use Rattle.searching.specs.Folding.{folded_text}
use Rattle.searching.specs.Wanted.{is_named}
use Rattle.searching.specs.Words.{words_of}
use Rattle.sheets.specs.Gathered.{Gathered, gathered}
use Rattle.html_text.specs.declared.names.Element.TheVariants as element
use Rattle.html_parts.specs.declared.part.Part.{Part}
use Rattle.html_parts.specs.Building.{element_parts, form_parts}
use Rattle.html_parts.specs.Frame.{frame_parts}
use Rattle.html_pages.specs.Items.{entry_words, item}
use Rattle.html_pages.specs.Links.{register_link}
use Rattle.html_lists.specs.Home.{register_item}
use Rattle.html_lists.specs.Labels.{label_word}
use Rattle.html_lists.specs.Paging.{last_page, page_of, page_parts}
use Rattle.html_lists.specs.Surnames.{counted_parts, person_at}
use Rattle.html_lists.specs.declared.label.Label.TheVariants as label
use Rattle.html_lists.specs.declared.paging.Paged.TheVariants as paged

-- the words that a text searches for
abbrev pub words_in : List ℕ → List (List ℕ)
words_in text = words_of (folded_text (chars text))

-- all the words occur in one of the names of the record
abbrev pub is_found : List (List ℕ) → Option Record → Bool
is_found words None = false
is_found words (Some r) = is_named words r

abbrev pub found_of : Gathered → List (List ℕ) → List ℕ → List ℕ
found_of g words numbers = filter (λ n. is_found words (g.at n)) numbers

-- the persons, the sources and the entries that are found, each by number; nothing without a word
abbrev pub found : Gathered → List (List ℕ) → List ℕ
found g [] = []
found g (word ∷ words) = found_of g (word ∷ words) g.persons ++ (found_of g (word ∷ words) g.sources
    ++ found_of g (word ∷ words) g.entries)

-- an entry, which leads to its register
abbrev pub entry_item : (ℕ → Option Record) → model.Entry → List Part
entry_item at e = item (register_link e.source (entry_words e) (at e.source))

abbrev pub found_item : Gathered → ℕ → Option Record → List Part
found_item g n (Some (kind.Source s)) = register_item n (Some (kind.Source s))
found_item g n (Some (kind.Entry e)) = entry_item g.at e
found_item g n _ = person_at g n

abbrev pub found_at : Gathered → ℕ → List Part
found_at g n = found_item g n (g.at n)

-- the field of a search with the text, how many are found, and a page of them
abbrev pub search_parts : Gathered → List ℕ → ℕ → ℕ → List ℕ → List Part
search_parts g text page count shown = element_parts element.H1 (label_word label.Search) ++ (form_parts text
    ++ (counted_parts label.Found count ++ page_parts (paged.Search text)
    (record { page = page; last = last_page count }) (flat_map (found_at g) shown)))

abbrev pub search_in : List ℕ → Gathered → List ℕ → ℕ → List ℕ → Option (List Part)
search_in society g text page numbers = option_map
    (λ shown. frame_parts society (label_word label.Search) (search_parts g text page (length numbers) shown))
    (page_of page numbers)

abbrev pub search_page : Records → List ℕ → List ℕ → ℕ → Option (List Part)
search_page m society text page = search_in society (gathered m) text page (found (gathered m) (words_in text))
