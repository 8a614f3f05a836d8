-- The surnames of all persons, by letter: rules of our own.
use Rattle.std.specs.Prelude.{
  ℕ,
  ◌==◌,
  if◌then◌else◌,
  List,
  [],
  ◌∷◌,
  ◌++◌,
  length,
  map,
  fold,
  chars,
  codes,
  decimal,
  encode_utf8,
  string_bytes,
  unwrap_or,
  Option,
  Some,
  None,
}
use Rattle.std.specs.BTreeMap.{BTreeMap, insert_entry}
use Rattle.std.specs.Char.{to_ascii_uppercase}
use Rattle.std.specs.Cmp.Lexicographic.{slice_cmp}
use Rattle.std.specs.Global.{Global}
use Rattle.std.specs.List.{flat_map}
use Rattle.std.specs.Map.{values_of}
use Rattle.std.specs.Ordering.{nat_cmp}
use Rattle.std.specs.declared.string.String.{String}
use Rattle.record_text.specs.Naming.{key_of, surname_of}
use Rattle.record_kinds.specs.Model as model
use Rattle.record_kinds.specs.declared.record.Record.{Record}
use Rattle.record_kinds.specs.declared.record.Record.TheVariants as kind
use Rattle.searching.specs.Folding.{folded_text}
use Rattle.searching.specs.Words.{initial, words_of}
use Rattle.sheets.specs.Gathered.{Gathered}
use Rattle.html_text.specs.declared.names.Element.TheVariants as element
use Rattle.html_parts.specs.declared.part.Part.{Part}
use Rattle.html_parts.specs.declared.part.Part.TheVariants as part
use Rattle.html_parts.specs.declared.route.Route.TheVariants as route
use Rattle.html_parts.specs.Building.{link_parts, section_parts}
use Rattle.html_pages.specs.Called.{called}
use Rattle.html_lists.specs.Labels.{label_word}
use Rattle.html_lists.specs.Surnames.{titled}
use Rattle.html_lists.specs.declared.label.Label.TheVariants as label

-- ---- letters
-- the first letter or digit of the search key of a surname; `?` where there is none
abbrev pub letter_of : List ℕ → ℕ
letter_of surname = unwrap_or (initial (words_of (folded_text (chars surname)))) 63

-- `?` comes after all letters: U+10FFFF is none
unfoldable pub placed : ℕ → ℕ
placed letter = if letter == 63 then 0x10FFFF else letter

-- what surnames are ordered by: the letter, then the key
abbrev pub order_of : List ℕ → List ℕ
order_of surname = encode_utf8 (placed (letter_of surname)) ++ key_of surname

-- ---- surnames
-- those of these names; an empty one where there is no name
abbrev pub surnames_among : List model.Name → List (List ℕ)
surnames_among [] = [] ∷ []
surnames_among (x ∷ xs) = map (λ (y : model.Name). surname_of y.text) (x ∷ xs)

-- those of a person; of another record none
abbrev pub surnames_of : Option Record → List (List ℕ)
surnames_of (Some (kind.Person p)) = surnames_among p.names
surnames_of _ = []

-- those of all persons
abbrev pub surnames_in : Gathered → List (List ℕ)
surnames_in g = flat_map (λ n. surnames_of (g.at n)) g.persons

-- the surname under what it is ordered by, in place of one that is there
abbrev pub with_surname : List (List ℕ × List ℕ) → List ℕ → List (List ℕ × List ℕ)
with_surname es surname = insert_entry (slice_cmp nat_cmp) es (order_of surname) surname

-- these under what they are ordered by, each once, as it is written last
abbrev pub arranged : List (List ℕ) → List (List ℕ × List ℕ)
arranged surnames = fold with_surname [] surnames

-- a map of texts, as the list of its entries
abbrev pub text_entry : String Global × String Global → List ℕ × List ℕ
text_entry e = (string_bytes e.0, string_bytes e.1)

abbrev pub texts : BTreeMap (String Global) (String Global) → List (List ℕ × List ℕ)
texts m = map text_entry m.entries

-- ---- lists of them
-- a surname of so many persons, which leads to them
abbrev pub counted_item : List ℕ → ℕ → List Part
counted_item surname count = part.Start element.Li ∷ (link_parts (route.Surname surname) (titled surname)
    ++ part.Words (codes ": ") ∷ part.Words (decimal count) ∷ part.End element.Li ∷ [])

abbrev pub surname_item : Gathered → List ℕ → List Part
surname_item g surname = counted_item surname (length (called g surname))

-- the list of a letter, of which those of ASCII are capitals, begins and ends
abbrev pub begin_parts : ℕ → List Part
begin_parts letter = part.Start element.Li ∷ part.Words (encode_utf8 (to_ascii_uppercase letter))
    ∷ part.Start element.Ul ∷ []

abbrev pub end_parts : List Part
end_parts = part.End element.Ul ∷ part.End element.Li ∷ []

-- before a surname of a letter: where the one before has another, that list ends; the first of a letter begins one
abbrev pub turn_parts : Option ℕ → ℕ → List Part
turn_parts None letter = begin_parts letter
turn_parts (Some last) letter = if last == letter then [] else end_parts ++ begin_parts letter

-- after all
abbrev pub last_parts : Option ℕ → List Part
last_parts None = []
last_parts (Some last) = end_parts

-- the surnames after one of a letter
abbrev pub after_parts : Gathered → Option ℕ → List (List ℕ) → List Part
after_parts g last [] = last_parts last
after_parts g last (s ∷ ss) =
    turn_parts last (letter_of s) ++ (surname_item g s ++ after_parts g (Some (letter_of s)) ss)

-- each surname once, in a list for each letter
abbrev pub surnames_parts : Gathered → List Part
surnames_parts g = section_parts (label_word label.Surnames)
    (after_parts g None (values_of (arranged (surnames_in g))))
