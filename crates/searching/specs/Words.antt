-- The words of a folded text, and when the words of a search occur in it.
use Rattle.std.specs.Prelude.{
  ◌≡◌,
  ℕ,
  Bool,
  true,
  false,
  not,
  ◌&&◌,
  ◌||◌,
  ◌==◌,
  if◌then◌else◌,
  List,
  [],
  ◌∷◌,
  ◌++◌,
  map,
  filter,
  flat_map,
  Contains,
  encode_utf8_all,
  Option,
  Some,
  None,
}
use Rattle.std.specs.List.{list_all, list_any, slice_split}
use Rattle.ucd_category.specs.GeneralCategory.{general_category}
use Rattle.ucd_category.specs.GeneralCategoryGroup.{in_group}
use Rattle.ucd_category.specs.declared.GeneralCategoryGroup.TheVariants.{Letter, Number}

-- an apostrophe, or what is written for one
unfoldable pub is_apostrophe : ℕ → Bool
is_apostrophe c = c == 0x27 || c == 0x60 || c == 0x2BB || c == 0x2BC || c == 0x2018 || c == 0x2019

-- a letter or a digit
unfoldable pub is_letter : ℕ → Bool
is_letter c = in_group Letter (general_category c) || in_group Number (general_category c)

-- a character of a word
abbrev pub is_word : ℕ → Bool
is_word c = not (is_apostrophe c) && is_letter c

-- what parts words
abbrev pub is_gap : ℕ → Bool
is_gap c = not (is_apostrophe c) && not (is_letter c)

-- a part of a text, without its apostrophes
abbrev pub key_of : List ℕ → List ℕ
key_of part = filter (λ c. not (is_apostrophe c)) part

-- those that have a character
abbrev pub filled : List (List ℕ) → List (List ℕ)
filled [] = []
filled ([] ∷ keys) = filled keys
filled ((c ∷ cs) ∷ keys) = (c ∷ cs) ∷ filled keys

-- the keys of the words of a text, in order
abbrev pub words_of : List ℕ → List (List ℕ)
words_of text = filled (map key_of (slice_split is_gap text))

-- words as one text in UTF-8, each with a space after it
abbrev pub key_text : List (List ℕ) → List ℕ
key_text words = flat_map (λ word. encode_utf8_all word ++ 32 ∷ []) words

-- the first character of the first word
abbrev pub initial : List (List ℕ) → Option ℕ
initial [] = None
initial ([] ∷ words) = None
initial ((c ∷ cs) ∷ words) = Some c

-- what stands after each apostrophe of a part
abbrev pub after_apostrophes : List ℕ → List (List ℕ)
after_apostrophes [] = []
after_apostrophes (c ∷ cs) = if is_apostrophe c then cs ∷ after_apostrophes cs else after_apostrophes cs

-- the words by which a text is found: what stands after an apostrophe begins one too
abbrev pub found_by : List ℕ → List (List ℕ)
found_by text = filled (map key_of (flat_map (λ part. part ∷ after_apostrophes part) (slice_split is_gap text)))

-- the key begins with the word, as a test
abbrev pub begins : List ℕ → List ℕ → Bool
begins [] key = true
begins (x ∷ xs) [] = false
begins (x ∷ xs) (c ∷ cs) = (x == c) && begins xs cs

-- each of the words begins a word of the text, as a test
abbrev pub all_occur : List (List ℕ) → List ℕ → Bool
all_occur words text = list_all (λ word. list_any (begins word) (found_by text)) words

-- the key begins with the word
abbrev pub Begins : List ℕ → List ℕ → Type 0
Begins word key = (rest : List ℕ) × (word ++ rest ≡ key)

-- each of the words begins a word of the text
abbrev pub AllOccur : List (List ℕ) → List ℕ → Type 0
AllOccur words text = (word : List ℕ) → Contains words word
    → (key : List ℕ) × Contains (found_by text) key × Begins word key
