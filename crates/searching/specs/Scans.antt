-- How a text is gone through for its words, a character at a time; proofs/ show that this finds what Words says. No
-- clause of a public call names it.
use Rattle.std.specs.Prelude.{
  ℕ,
  Bool,
  true,
  false,
  not,
  ◌&&◌,
  ◌||◌,
  ◌==◌,
  if◌then◌else◌,
  List,
  [],
  ◌∷◌,
  ◌++◌,
  map,
  Option,
  Some,
  None,
}
use Rattle.std.specs.Global.{Vec}
use Rattle.searching.specs.Words.{filled, is_apostrophe, is_word}

-- the characters of each word
abbrev pub items : Vec ℕ → List ℕ
items word = word.items

abbrev pub keys : Vec (Vec ℕ) → List (List ℕ)
keys words = map items words.items

-- the text begins with the word, where apostrophes are no part of it
abbrev pub begins_text : List ℕ → List ℕ → Bool
begins_text [] cs = true
begins_text (x ∷ xs) [] = false
begins_text (x ∷ xs) (c ∷ cs) =
    if is_apostrophe c then begins_text (x ∷ xs) cs else ((x == c) && is_word c) && begins_text xs cs

-- it is the first character of the word, or the word has none
abbrev pub is_first : List ℕ → ℕ → Bool
is_first [] c = true
is_first (x ∷ xs) c = x == c

-- a word may begin after this character; before the first there is none
abbrev pub may_begin : Option ℕ → Bool
may_begin None = true
may_begin (Some c) = not (is_word c)

-- the word begins a word of the text here, after this character
abbrev pub begins_word : List ℕ → Option ℕ → List ℕ → Bool
begins_word word before [] = false
begins_word word before (c ∷ cs) = is_word c && (may_begin before && begins_text word (c ∷ cs))

-- the word begins a word of the text, whose first character may begin one, or goes on with one
abbrev pub occurs_in : List ℕ → Bool → List ℕ → Bool
occurs_in word begins [] = false
occurs_in word begins (c ∷ cs) =
    if is_word c then (begins && begins_text word (c ∷ cs)) || occurs_in word false cs else occurs_in word true cs

-- the words of a text of which one has begun
abbrev pub words_from : List ℕ → List ℕ → List (List ℕ)
words_from word [] = filled (word ∷ [])
words_from word (c ∷ cs) =
    if is_word c then words_from (word ++ c ∷ []) cs
    else if is_apostrophe c then words_from word cs
    else filled (word ∷ []) ++ words_from [] cs
