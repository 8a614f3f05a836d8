-- Records shown whole, one below another, and lists of which a word gives the source: rules of our own.
use Rattle.std.specs.Prelude.{ℕ, List, [], ◌∷◌, ◌++◌, codes, fold, Option, Some, None, option_and_then, option_map}
use Rattle.std.specs.Global.{Vec}
use Rattle.archive_state.specs.Content.{Content}
use Rattle.record_lists.specs.Texts.{list_text}
use Rattle.record_lists.specs.declared.listed.Chosen.{Chosen}
use Rattle.record_lists.specs.declared.listed.Chosen.TheVariants as chosen
use Rattle.record_lists.specs.declared.listed.Listed.{Listed}
use Rattle.row_references.specs.Words.{number_in}
use Rattle.row_references.specs.declared.words.NumberWord.{NumberWord}
use Rattle.searching.specs.declared.wanted.Listing.{Listing}
use Rattle.showing.specs.Shown.{shown_at}

-- a text below what stands there, with a blank line between
abbrev pub below : List ℕ → List ℕ → List ℕ
below [] text = text
below (b ∷ bs) text = (b ∷ bs) ++ (codes "\n" ++ text)

-- the same of texts that may be missing: both, or none
abbrev pub both : Option (List ℕ) → Option (List ℕ) → Option (List ℕ)
both None text = None
both (Some above) None = None
both (Some above) (Some text) = Some (below above text)

-- the record of the number that a word gives, whole; none if it gives none, or there is none
abbrev pub shown_by : Content → NumberWord → Option (List ℕ)
shown_by c word = option_and_then (shown_at c) (number_in c word)

-- the records of these numbers, each whole and below the one before it; none if one of them is of no record
abbrev pub shown_text : Content → List NumberWord → Option (List ℕ)
shown_text c words = fold (λ above word. both above (shown_by c word)) (Some []) words

-- ---- lists of a source
abbrev pub listing_of : ℕ → Listing → Listing
listing_of source l = record l { wanted = record l.wanted { source = Some source } }

-- the records that are listed are those of a source
abbrev pub chosen_of : ℕ → Chosen → Chosen
chosen_of source (chosen.Records l) = chosen.Records (listing_of source l)
chosen_of source other = other

abbrev pub listed_of : ℕ → Listed → Listed
listed_of source l = record l { of = chosen_of source l.of }

-- what is listed of the source of the number that a word gives; none if it gives none
abbrev pub list_by : NumberWord → Listed → Content → Option (List ℕ)
list_by word l c = option_map (λ source. list_text (listed_of source l) c) (number_in c word)

-- what is listed, of a source if a word is given
abbrev pub list_of : Option NumberWord → Listed → Content → Option (List ℕ)
list_of None l c = Some (list_text l c)
list_of (Some word) l c = list_by word l c

-- the bytes of a text that is written
abbrev pub items_of : Vec ℕ → List ℕ
items_of v = v.items
