-- The words of a text, as they are gathered a character at a time.
use Rattle.std.proofs.Common.{
  ◌≡◌,
  ℕ,
  not,
  ◌&&◌,
  Bool,
  true,
  false,
  List,
  [],
  ◌∷◌,
  ◌++◌,
  length,
  map,
  cond,
  refl,
  ap,
  ap₂,
  sym,
  ◌∙◌,
  append-nil,
  append_assoc,
}
use Rattle.std.specs.List.{onto_first, slice_split}
use Rattle.searching.specs.Words.{filled, is_apostrophe, is_gap, is_letter, key_of, words_of}
use Rattle.searching.specs.Scans.{words_from}

-- ---- the first part of a text, and the others
abbrev pub first : List ℕ → List ℕ
first [] = []
first (c ∷ cs) = cond (is_gap c) [] (c ∷ first cs)

abbrev pub others : List ℕ → List (List ℕ)
others [] = []
others (c ∷ cs) = cond (is_gap c) (slice_split is_gap cs) (others cs)

pub split_is : (cs : List ℕ) → slice_split is_gap cs ≡ first cs ∷ others cs
split_is [] = refl
split_is (c ∷ cs) = here (is_gap c) (split_is cs)
  where
    here : (b : Bool) → slice_split is_gap cs ≡ first cs ∷ others cs
        → cond b ([] ∷ slice_split is_gap cs) (onto_first c (slice_split is_gap cs))
        ≡ cond b [] (c ∷ first cs) ∷ cond b (slice_split is_gap cs) (others cs)
    here true is = refl
    here false is = ap (onto_first c) is

-- ---- one more character
module _ (c : ℕ) (cs : List ℕ) (a l : Bool) (ea : is_apostrophe c ≡ a) (el : is_letter c ≡ l) where
  pub first_more : first (c ∷ cs) ≡ cond (not a && not l) [] (c ∷ first cs)
  first_more = ap₂ (λ (x y : Bool). cond (not x && not y) [] (c ∷ first cs)) ea el

  pub others_more : others (c ∷ cs) ≡ cond (not a && not l) (slice_split is_gap cs) (others cs)
  others_more = ap₂ (λ (x y : Bool). cond (not x && not y) (slice_split is_gap cs) (others cs)) ea el

  pub key_more : (part : List ℕ) → key_of (c ∷ part) ≡ cond (not a) (c ∷ key_of part) (key_of part)
  key_more part = ap (λ (x : Bool). cond (not x) (c ∷ key_of part) (key_of part)) ea

-- ---- the words of which one has begun
abbrev begun : List ℕ → List ℕ → List (List ℕ)
begun word cs = filled ((word ++ key_of (first cs)) ∷ map key_of (others cs))

one_more : (word : List ℕ) (keys : List (List ℕ)) → filled (word ∷ keys) ≡ filled (word ∷ []) ++ filled keys
one_more [] keys = refl
one_more (x ∷ xs) keys = refl

from_more : (word : List ℕ) (c : ℕ) (cs : List ℕ) (a l : Bool) → is_apostrophe c ≡ a → is_letter c ≡ l
    → words_from word (c ∷ cs) ≡ cond (not a && l) (words_from (word ++ c ∷ []) cs)
    (cond a (words_from word cs) (filled (word ∷ []) ++ words_from [] cs))
from_more word c cs a l ea el = ap₂ (λ (x y : Bool). cond (not x && y) (words_from (word ++ c ∷ []) cs)
    (cond x (words_from word cs) (filled (word ∷ []) ++ words_from [] cs))) ea el

begun_more : (word : List ℕ) (c : ℕ) (cs : List ℕ) (front : List ℕ) (more : List (List ℕ)) → first (c ∷ cs) ≡ front
    → others (c ∷ cs) ≡ more → begun word (c ∷ cs) ≡ filled ((word ++ key_of front) ∷ map key_of more)
begun_more word c cs front more f o =
    ap₂ (λ (x : List ℕ) (y : List (List ℕ)). filled ((word ++ key_of x) ∷ map key_of y)) f o

from_begun : (word cs : List ℕ) → words_from word cs ≡ begun word cs
from_begun word [] = ap (λ l. filled (l ∷ [])) (sym (append-nil word))
from_begun word (c ∷ cs) = here (λ w. from_begun w cs) (is_apostrophe c) (is_letter c) refl refl
  where
    inside : (a l : Bool) → is_apostrophe c ≡ a → is_letter c ≡ l → (not a && not l) ≡ false → (key : List ℕ)
        → key_of (c ∷ first cs) ≡ key → begun word (c ∷ cs) ≡ filled ((word ++ key) ∷ map key_of (others cs))
    inside a l ea el none key k = begun_more word c cs (c ∷ first cs) (others cs)
        (first_more c cs a l ea el ∙ ap (λ (b : Bool). cond b [] (c ∷ first cs)) none)
        (others_more c cs a l ea el ∙ ap (λ (b : Bool). cond b (slice_split is_gap cs) (others cs)) none)
        ∙ ap (λ x. filled ((word ++ x) ∷ map key_of (others cs))) k

    here : ((w : List ℕ) → words_from w cs ≡ begun w cs) → (a l : Bool) → is_apostrophe c ≡ a → is_letter c ≡ l
        → words_from word (c ∷ cs) ≡ begun word (c ∷ cs)
    here rest true l ea el = from_more word c cs true l ea el ∙ rest word
        ∙ sym (inside true l ea el refl (key_of (first cs)) (key_more c cs true l ea el (first cs)))
    here rest false true ea el = from_more word c cs false true ea el ∙ rest (word ++ c ∷ [])
        ∙ ap (λ x. filled (x ∷ map key_of (others cs))) (append_assoc word (c ∷ []) (key_of (first cs)))
        ∙ sym (inside false true ea el refl (c ∷ key_of (first cs)) (key_more c cs false true ea el (first cs)))
    here rest false false ea el = from_more word c cs false false ea el
        ∙ ap (λ l. filled (word ∷ []) ++ l) (rest [] ∙ ap (λ l. filled (map key_of l)) (sym (split_is cs)))
        ∙ sym (one_more word (map key_of (slice_split is_gap cs)))
        ∙ ap (λ l. filled (l ∷ map key_of (slice_split is_gap cs))) (sym (append-nil word))
        ∙ sym (begun_more word c cs [] (slice_split is_gap cs) (first_more c cs false false ea el)
        (others_more c cs false false ea el))

pub gathered : (cs : List ℕ) → words_from [] cs ≡ words_of cs
gathered cs = from_begun [] cs ∙ ap (λ l. filled (map key_of l)) (sym (split_is cs))

-- all is gone through
pub all_gathered : (keys old new : List (List ℕ)) (word rest text : List ℕ) → length rest ≡ 0
    → keys ++ words_from word rest ≡ old ++ words_from [] text → new ≡ keys ++ filled (word ∷ [])
    → new ≡ old ++ words_of text
all_gathered keys old new word [] text end all is = is ∙ all ∙ ap (λ l. old ++ l) (gathered text)
all_gathered keys old new word (c ∷ cs) text end all is = absurd cc
