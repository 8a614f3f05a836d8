-- The links of pages that list records go to what is shown.
use Rattle.std.proofs.Common.{
  ◌≡◌,
  refl,
  ℕ,
  Bool,
  true,
  false,
  List,
  [],
  ◌∷◌,
  ◌++◌,
  Option,
  Some,
  None,
  flat_map,
  length,
}
use Rattle.std.specs.Prelude.{◌&&◌, ◌==◌, if◌then◌else◌, IfSome, nat_lt, option_map}
use Rattle.std.specs.FinMap.{get}
use Rattle.std.specs.List.{list_all}
use Rattle.std.specs.Map.{values_of}
use Rattle.record_kinds.specs.Model as model
use Rattle.record_kinds.specs.declared.record.Record.{Record}
use Rattle.record_kinds.specs.declared.record.Record.TheVariants as kind
use Rattle.archive_state.specs.Content.{Records}
use Rattle.sheet_lines.specs.Lines.{title_words}
use Rattle.sheets.specs.Gathered.{Gathered, gathered}
use Rattle.html_text.specs.declared.names.Element.TheVariants as element
use Rattle.html_parts.specs.declared.part.Part.{Part}
use Rattle.html_parts.specs.declared.part.Part.TheVariants as part
use Rattle.html_parts.specs.Building.{element_parts, form_parts, section_parts}
use Rattle.html_parts.specs.Frame.{frame_parts}
use Rattle.html_pages.specs.Showing.{IsSourceAt, LeadToShown}
use Rattle.html_pages.specs.Called.{called}
use Rattle.html_pages.specs.Items.{entry_words}
use Rattle.html_pages.proofs.Leading.{
  each_of,
  framed_leads,
  if_leads,
  item_leads,
  joined,
  listed,
  to_person,
  to_register,
}
use Rattle.html_lists.specs.Home.{
  counts_parts,
  home_page,
  home_parts,
  lists_parts,
  register_at,
  register_item,
  registers_parts,
}
use Rattle.html_lists.specs.Labels.{label_word}
use Rattle.html_lists.specs.Letters as letters
use Rattle.html_lists.specs.Letters.{
  arranged,
  begin_parts,
  last_parts,
  letter_of,
  surname_item,
  surnames_in,
  surnames_parts,
  turn_parts,
}
use Rattle.html_lists.specs.Paging.{
  after_parts,
  before_parts,
  between_parts,
  last_page,
  page_of,
  page_parts,
  step_parts,
}
use Rattle.html_lists.specs.Registers.{
  entries_of,
  entry_at,
  entry_item,
  mention_item,
  mentions_parts,
  name_link,
  named_parts,
  note_parts,
  place_parts,
  register_in,
  register_page,
  register_parts,
  text_parts,
}
use Rattle.html_lists.specs.Searches.{found, found_at, found_item, search_in, search_page, search_parts, words_in}
use Rattle.html_lists.specs.Surnames.{counted_parts, person_at, surname_in, surname_page, surname_parts, titled}
use Rattle.html_lists.specs.declared.label.Label.TheVariants as label
use Rattle.html_lists.specs.declared.paging.Paged.{Paged}
use Rattle.html_lists.specs.declared.paging.Paged.TheVariants as paged
use Rattle.html_lists.specs.declared.paging.Place.{Place}

-- ---- parts without a link
abbrev is_no_link : Part → Bool
is_no_link (part.Link r) = false
is_no_link _ = true

no_links : (at : ℕ → Option Record) (ps : List Part) → list_all is_no_link ps ≡ true → LeadToShown at ps
no_links at [] h = tt
no_links at (part.Link r ∷ ps) h = absurd cc
no_links at (p ∷ ps) h = (tt, no_links at ps h)

-- they may stand before what leads to what is shown
plain : (at : ℕ → Option Record) (ps more : List Part) → list_all is_no_link ps ≡ true → LeadToShown at more
    → LeadToShown at (ps ++ more)
plain at ps more none h = joined at ps more (no_links at ps none) h

-- ---- the first page
source_leads : (at : ℕ → Option Record) (k : ℕ) (r : Option Record) → at k ≡ r → LeadToShown at (register_item k r)
source_leads at k (Some (kind.Source s)) is = (tt, ((s, is), (tt, (tt, (tt, tt)))))
source_leads at k r is = tt

-- a surname leads to its page, which is there whoever has it
item_leads_on : (g : Gathered) (surname : List ℕ) → LeadToShown g.at (surname_item g surname)
item_leads_on g surname = (tt, (tt, (tt, (tt, (tt, (tt, (tt, tt)))))))

turn_leads : (at : ℕ → Option Record) (last : Option ℕ) (letter : ℕ) → LeadToShown at (turn_parts last letter)
turn_leads at None letter = (tt, (tt, (tt, tt)))
turn_leads at (Some last) letter = turned (last == letter)
  where
    turned : (b : Bool) → LeadToShown at (if b then [] else letters.end_parts ++ begin_parts letter)
    turned true = tt
    turned false = (tt, (tt, (tt, (tt, (tt, tt)))))

last_leads : (at : ℕ → Option Record) (last : Option ℕ) → LeadToShown at (last_parts last)
last_leads at None = tt
last_leads at (Some last) = (tt, (tt, tt))

letters_lead : (g : Gathered) (last : Option ℕ) (ss : List (List ℕ))
    → LeadToShown g.at (letters.after_parts g last ss)
letters_lead g last [] = last_leads g.at last
letters_lead g last (s ∷ ss) = joined g.at (turn_parts last (letter_of s)) _ (turn_leads g.at last (letter_of s))
    (joined g.at (surname_item g s) _ (item_leads_on g s) (letters_lead g (Some (letter_of s)) ss))

sectioned : (at : ℕ → Option Record) (heading : List ℕ) (parts : List Part) → LeadToShown at parts
    → LeadToShown at (section_parts heading parts)
sectioned at heading [] h = tt
sectioned at heading (p ∷ ps) h = (tt, (tt, (tt, (tt, (tt, joined at (p ∷ ps) _ h (tt, (tt, tt)))))))

surnames_lead : (g : Gathered) → LeadToShown g.at (surnames_parts g)
surnames_lead g = sectioned g.at (label_word label.Surnames) _
    (letters_lead g None (values_of (arranged (surnames_in g))))

home_parts_lead : (g : Gathered) (society : List ℕ) → LeadToShown g.at (home_parts g society)
home_parts_lead g society =
    plain g.at (element_parts element.H1 society) (form_parts [] ++ (counts_parts g ++ lists_parts g)) refl
    (plain g.at (form_parts []) (counts_parts g ++ lists_parts g) refl
    (plain g.at (counts_parts g) (lists_parts g) refl
    (joined g.at (registers_parts g) (surnames_parts g)
    (listed g.at (label_word label.Registers) (register_at g) (λ k. source_leads g.at k (g.at k) refl) g.sources)
    (surnames_lead g))))

pub home_leads : (m : Records) (society : List ℕ) → LeadToShown (get m) (home_page m society)
home_leads m society = framed_leads (get m) society (label_word label.Home) (home_parts (gathered m) society)
    (home_parts_lead (gathered m) society)

-- ---- pages
-- what the pages of a list are of is shown
abbrev pub OfShown : (ℕ → Option Record) → Paged → Type 0
OfShown at (paged.Register n) = IsSourceAt at n
OfShown at (paged.Surname surname) = Unit {0}
OfShown at (paged.Search words) = Unit {0}

before_leads : (at : ℕ → Option Record) (of : Paged) (page : ℕ) → OfShown at of → LeadToShown at (before_parts of page)
before_leads at (paged.Register n) page h = if_leads at (nat_lt 1 page) _ (h, (tt, (tt, tt)))
before_leads at (paged.Surname surname) page h = if_leads at (nat_lt 1 page) _ (tt, (tt, (tt, tt)))
before_leads at (paged.Search words) page h = if_leads at (nat_lt 1 page) _ (tt, (tt, (tt, tt)))

after_leads : (at : ℕ → Option Record) (of : Paged) (place : Place) → OfShown at of
    → LeadToShown at (after_parts of place)
after_leads at (paged.Register n) place h = if_leads at (nat_lt place.page place.last) _ (h, (tt, (tt, tt)))
after_leads at (paged.Surname surname) place h = if_leads at (nat_lt place.page place.last) _ (tt, (tt, (tt, tt)))
after_leads at (paged.Search words) place h = if_leads at (nat_lt place.page place.last) _ (tt, (tt, (tt, tt)))

between_leads : (at : ℕ → Option Record) (place : Place) → LeadToShown at (between_parts place)
between_leads at place = if_leads at (nat_lt 1 place.page && nat_lt place.page place.last) _ (tt, tt)

steps_lead : (at : ℕ → Option Record) (of : Paged) (place : Place) → OfShown at of
    → LeadToShown at (step_parts of place)
steps_lead at of place h = (
  tt,
  (
    tt,
    joined at _ _ (before_leads at of place.page h)
        (joined at _ _ (between_leads at place) (joined at _ _ (after_leads at of place h) (tt, tt))),
  ),
)

pub page_leads : (at : ℕ → Option Record) (of : Paged) (place : Place) (items : List Part) → OfShown at of
    → LeadToShown at items → LeadToShown at (page_parts of place items)
page_leads at of place items h k = (tt, joined at items _ k (tt, steps_lead at of place h))

-- what leads to what is shown on each page of a list
pub on_pages : {A : Type 0} (at : ℕ → Option Record) (f : List A → List Part)
    → ((shown : List A) → LeadToShown at (f shown)) → (o : Option (List A)) → IfSome (option_map f o) (LeadToShown at)
on_pages at f h None = tt
on_pages at f h (Some shown) = h shown

-- ---- registers
name_leads : (at : ℕ → Option Record) (n : ℕ) (name : List ℕ) (r : Option Record) → at n ≡ r
    → LeadToShown at (name_link n name r)
name_leads at n name (Some (kind.Person p)) is = ((p, is), (tt, (tt, tt)))
name_leads at n name r is = (tt, tt)

named_leads : (at : ℕ → Option Record) (name : List ℕ) (l : Option model.Link) → LeadToShown at (named_parts at name l)
named_leads at name None = (tt, tt)
named_leads at name (Some l) = joined at _ _ (name_leads at l.person name (at l.person) refl) (tt, tt)

mention_leads : (at : ℕ → Option Record) (x : model.Mention) → LeadToShown at (mention_item at x)
mention_leads at x = (tt, (tt, (tt, joined at _ _ (named_leads at x.name x.link) (tt, tt))))

mentions_lead : (at : ℕ → Option Record) (xs : List model.Mention) → LeadToShown at (mentions_parts at xs)
mentions_lead at xs = (tt, joined at _ _ (each_of at (mention_item at) (mention_leads at) xs) (tt, tt))

place_leads : (at : ℕ → Option Record) (path : ℕ → List ℕ) (place : Option ℕ) → LeadToShown at (place_parts path place)
place_leads at path None = tt
place_leads at path (Some place) = (tt, (tt, (tt, tt)))

text_leads : (at : ℕ → Option Record) (text : List ℕ) → LeadToShown at (text_parts text)
text_leads at [] = tt
text_leads at (b ∷ bs) = (tt, (tt, (tt, tt)))

entry_leads : (g : Gathered) (r : Option Record) → LeadToShown g.at (entry_item g r)
entry_leads g (Some (kind.Entry e)) = (
  tt,
  (
    tt,
    joined g.at (place_parts g.path e.place) _ (place_leads g.at g.path e.place)
        (joined g.at (text_parts e.text) _ (text_leads g.at e.text)
        (joined g.at (mentions_parts g.at e.mentions) (part.End element.Li ∷ []) (mentions_lead g.at e.mentions)
        (tt, tt))),
  ),
)
entry_leads g r = tt

register_parts_lead : (g : Gathered) (title : List ℕ) (n page count : ℕ) (shown : List ℕ) → IsSourceAt g.at n
    → LeadToShown g.at (register_parts g title n page count shown)
register_parts_lead g title n page count shown is =
    let place : Place = record { page = page; last = last_page count } in
    let items : List Part = flat_map (entry_at g) shown in
    let pages : List Part = page_parts (paged.Register n) place items in
    plain g.at (element_parts element.H1 title) (note_parts n count ++ pages) refl
    (plain g.at (note_parts n count) pages refl
    (page_leads g.at (paged.Register n) place items is
    (each_of g.at (entry_at g) (λ k. entry_leads g (g.at k)) shown)))

register_in_leads : (g : Gathered) (society : List ℕ) (n page : ℕ) (r : Option Record) → g.at n ≡ r
    → IfSome (register_in society g n page r) (LeadToShown g.at)
register_in_leads g society n page (Some (kind.Source s)) is = on_pages g.at
    (λ shown. frame_parts society (title_words s.title)
    (register_parts g (title_words s.title) n page (length (entries_of g n)) shown))
    (λ shown. framed_leads g.at society (title_words s.title)
    (register_parts g (title_words s.title) n page (length (entries_of g n)) shown)
    (register_parts_lead g (title_words s.title) n page (length (entries_of g n)) shown (s, is)))
    (page_of page (entries_of g n))
register_in_leads g society n page r is = tt

pub register_leads : (m : Records) (society : List ℕ) (n page : ℕ)
    → IfSome (register_page m society n page) (LeadToShown (get m))
register_leads m society n page = register_in_leads (gathered m) society n page (get m n) refl

-- ---- surnames
person_leads : (g : Gathered) (n : ℕ) → LeadToShown g.at (person_at g n)
person_leads g n = item_leads g.at _ (to_person g.at n (g.at n) refl)

surname_parts_lead : (g : Gathered) (of : List ℕ) (page count : ℕ) (shown : List ℕ)
    → LeadToShown g.at (surname_parts g of page count shown)
surname_parts_lead g of page count shown =
    let place : Place = record { page = page; last = last_page count } in
    let items : List Part = flat_map (person_at g) shown in
    let pages : List Part = page_parts (paged.Surname of) place items in
    plain g.at (element_parts element.H1 (titled of)) (counted_parts label.Persons count ++ pages) refl
    (plain g.at (counted_parts label.Persons count) pages refl
    (page_leads g.at (paged.Surname of) place items tt (each_of g.at (person_at g) (person_leads g) shown)))

surname_in_leads : (g : Gathered) (society of : List ℕ) (page : ℕ) (numbers : List ℕ)
    → IfSome (surname_in society g of page numbers) (LeadToShown g.at)
surname_in_leads g society of page numbers = on_pages g.at
    (λ shown. frame_parts society (titled of) (surname_parts g of page (length numbers) shown))
    (λ shown. framed_leads g.at society (titled of) (surname_parts g of page (length numbers) shown)
    (surname_parts_lead g of page (length numbers) shown))
    (page_of page numbers)

pub surname_leads : (m : Records) (society of : List ℕ) (page : ℕ)
    → IfSome (surname_page m society of page) (LeadToShown (get m))
surname_leads m society of page = surname_in_leads (gathered m) society of page (called (gathered m) of)

-- ---- searches
found_leads : (g : Gathered) (n : ℕ) (r : Option Record) → g.at n ≡ r → LeadToShown g.at (found_item g n r)
found_leads g n (Some (kind.Source s)) is = source_leads g.at n (Some (kind.Source s)) is
found_leads g n (Some (kind.Entry e)) is =
    item_leads g.at _ (to_register g.at e.source (entry_words e) (g.at e.source) refl)
found_leads g n r is = person_leads g n

search_parts_lead : (g : Gathered) (text : List ℕ) (page count : ℕ) (shown : List ℕ)
    → LeadToShown g.at (search_parts g text page count shown)
search_parts_lead g text page count shown =
    let place : Place = record { page = page; last = last_page count } in
    let items : List Part = flat_map (found_at g) shown in
    let pages : List Part = page_parts (paged.Search text) place items in
    plain g.at (element_parts element.H1 (label_word label.Search))
    (form_parts text ++ (counted_parts label.Found count ++ pages)) refl
    (plain g.at (form_parts text) (counted_parts label.Found count ++ pages) refl
    (plain g.at (counted_parts label.Found count) pages refl
    (page_leads g.at (paged.Search text) place items tt
    (each_of g.at (found_at g) (λ n. found_leads g n (g.at n) refl) shown))))

search_in_leads : (g : Gathered) (society text : List ℕ) (page : ℕ) (numbers : List ℕ)
    → IfSome (search_in society g text page numbers) (LeadToShown g.at)
search_in_leads g society text page numbers = on_pages g.at
    (λ shown. frame_parts society (label_word label.Search) (search_parts g text page (length numbers) shown))
    (λ shown. framed_leads g.at society (label_word label.Search)
    (search_parts g text page (length numbers) shown)
    (search_parts_lead g text page (length numbers) shown))
    (page_of page numbers)

pub search_leads : (m : Records) (society text : List ℕ) (page : ℕ)
    → IfSome (search_page m society text page) (LeadToShown (get m))
search_leads m society text page =
    search_in_leads (gathered m) society text page (found (gathered m) (words_in text))
