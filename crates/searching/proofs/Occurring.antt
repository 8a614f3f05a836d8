-- Where a word occurs in a text, as it is gone through a character at a time.
use Rattle.std.proofs.Common.{
  ◌≡◌,
  ℕ,
  ◌==◌,
  not,
  ◌&&◌,
  ◌||◌,
  Bool,
  true,
  false,
  List,
  [],
  ◌∷◌,
  ◌++◌,
  map,
  cond,
  refl,
  ap,
  ap₂,
  sym,
  ◌∙◌,
}
use Rattle.std.specs.List.{flat_map, list_any, slice_split}
use Rattle.std.proofs.lemmas.List.{map-append}
use Rattle.std.proofs.lemmas.List.Folds.{list_any-append}
use Rattle.searching.specs.Words.{
  after_apostrophes,
  begins,
  filled,
  found_by,
  is_apostrophe,
  is_gap,
  is_letter,
  key_of,
}
use Rattle.searching.specs.Scans.{begins_text, occurs_in}
use Rattle.list_laws.proofs.Booleans.{and_never, or_right}
use Rattle.searching.proofs.Gathered.{first, first_more, key_more, others, others_more, split_is}

text_more : (x : ℕ) (xs : List ℕ) (c : ℕ) (cs : List ℕ) (a l : Bool) → is_apostrophe c ≡ a → is_letter c ≡ l
    → begins_text (x ∷ xs) (c ∷ cs)
    ≡ cond a (begins_text (x ∷ xs) cs) (((x == c) && (not a && l)) && begins_text xs cs)
text_more x xs c cs a l ea el = ap₂ (λ (y z : Bool). cond y (begins_text (x ∷ xs) cs)
    (((x == c) && (not y && z)) && begins_text xs cs)) ea el

and_true : (b : Bool) → (b && true) ≡ b
and_true true = refl
and_true false = refl

pub begins_first : (word cs : List ℕ) → begins_text word cs ≡ begins word (key_of (first cs))
begins_first [] cs = refl
begins_first (x ∷ xs) [] = refl
begins_first (x ∷ xs) (c ∷ cs) =
    here (begins_first (x ∷ xs) cs) (begins_first xs cs) (is_apostrophe c) (is_letter c) refl refl
  where
    key_is : (front : List ℕ) → first (c ∷ cs) ≡ front → (key : List ℕ) → key_of front ≡ key
        → begins (x ∷ xs) (key_of (first (c ∷ cs))) ≡ begins (x ∷ xs) key
    key_is front f key k = ap (begins (x ∷ xs)) (ap key_of f ∙ k)

    here : begins_text (x ∷ xs) cs ≡ begins (x ∷ xs) (key_of (first cs))
        → begins_text xs cs ≡ begins xs (key_of (first cs)) → (a l : Bool) → is_apostrophe c ≡ a
        → is_letter c ≡ l → begins_text (x ∷ xs) (c ∷ cs) ≡ begins (x ∷ xs) (key_of (first (c ∷ cs)))
    here same more true l ea el = text_more x xs c cs true l ea el ∙ same
        ∙ sym (key_is (c ∷ first cs) (first_more c cs true l ea el) (key_of (first cs))
        (key_more c cs true l ea el (first cs)))
    here same more false true ea el = text_more x xs c cs false true ea el
        ∙ ap₂ ◌&&◌ (and_true (x == c)) more
        ∙ sym (key_is (c ∷ first cs) (first_more c cs false true ea el) (c ∷ key_of (first cs))
        (key_more c cs false true ea el (first cs)))
    here same more false false ea el = text_more x xs c cs false false ea el
        ∙ ap (λ b. b && begins_text xs cs) (and_never (x == c))
        ∙ sym (key_is [] (first_more c cs false false ea el) [] refl)

module _ (word : List ℕ) where
  -- one of the keys of these parts begins with the word
  abbrev any_of : List (List ℕ) → Bool
  any_of parts = list_any (begins word) (filled (map key_of parts))

  abbrev beginnings : List ℕ → List (List ℕ)
  beginnings part = part ∷ after_apostrophes part

  -- the key has a character and begins with the word
  abbrev one : List ℕ → Bool
  one [] = false
  one (c ∷ cs) = begins word (c ∷ cs)

  any_more : (key : List ℕ) (keys : List (List ℕ))
      → list_any (begins word) (filled (key ∷ keys)) ≡ (one key || list_any (begins word) (filled keys))
  any_more [] keys = refl
  any_more (c ∷ cs) keys = refl

  -- where a part begins, and within one
  abbrev fresh : List ℕ → Bool
  fresh cs = any_of (flat_map beginnings (slice_split is_gap cs))

  abbrev within : List ℕ → Bool
  within cs = any_of (after_apostrophes (first cs) ++ flat_map beginnings (others cs))

  all_fresh : (cs : List ℕ)
      → fresh cs ≡ any_of (first cs ∷ after_apostrophes (first cs) ++ flat_map beginnings (others cs))
  all_fresh cs = ap (λ l. any_of (flat_map beginnings l)) (split_is cs)

  fresh_is : (cs : List ℕ) → fresh cs ≡ (one (key_of (first cs)) || within cs)
  fresh_is cs = all_fresh cs
      ∙ any_more (key_of (first cs)) (map key_of (after_apostrophes (first cs) ++ flat_map beginnings (others cs)))

  twice : (a b : Bool) → (a || (a || b)) ≡ (a || b)
  twice true b = refl
  twice false b = refl

  more : (b : Bool) (c : ℕ) (cs : List ℕ) (a l : Bool) → is_apostrophe c ≡ a → is_letter c ≡ l
      → occurs_in word b (c ∷ cs)
      ≡ cond (not a && l) ((b && begins_text word (c ∷ cs)) || occurs_in word false cs) (occurs_in word true cs)
  more b c cs a l ea el = ap₂ (λ (x y : Bool). cond (not x && y)
      ((b && begins_text word (c ∷ cs)) || occurs_in word false cs) (occurs_in word true cs)) ea el

  within_more : (c : ℕ) (cs front : List ℕ) (parts tail : List (List ℕ)) → first (c ∷ cs) ≡ front
      → after_apostrophes front ≡ parts → others (c ∷ cs) ≡ tail
      → within (c ∷ cs) ≡ any_of (parts ++ flat_map beginnings tail)
  within_more c cs front parts tail f p o = ap₂ (λ (x : List ℕ) (y : List (List ℕ)).
      any_of (after_apostrophes x ++ flat_map beginnings y)) f o
      ∙ ap (λ x. any_of (x ++ flat_map beginnings tail)) p

  -- ---- an apostrophe: what stands after it begins a word too
  module _ (c : ℕ) (cs : List ℕ) (l : Bool) (ea : is_apostrophe c ≡ true) (el : is_letter c ≡ l) where
    apostrophe_within : within (c ∷ cs) ≡ fresh cs
    apostrophe_within = within_more c cs (c ∷ first cs) (first cs ∷ after_apostrophes (first cs)) (others cs)
        (first_more c cs true l ea el)
        (ap (λ (x : Bool). cond x (first cs ∷ after_apostrophes (first cs)) (after_apostrophes (first cs))) ea)
        (others_more c cs true l ea el) ∙ sym (all_fresh cs)

    apostrophe_fresh : fresh (c ∷ cs) ≡ fresh cs
    apostrophe_fresh = fresh_is (c ∷ cs)
        ∙ ap₂ (λ (k : List ℕ) (b : Bool). one k || b)
        (ap key_of (first_more c cs true l ea el) ∙ key_more c cs true l ea el (first cs))
        (apostrophe_within ∙ fresh_is cs)
        ∙ twice (one (key_of (first cs))) (within cs) ∙ sym (fresh_is cs)

  -- ---- a letter
  module _ (c : ℕ) (cs : List ℕ) (ea : is_apostrophe c ≡ false) (el : is_letter c ≡ true) where
    letter_within : within (c ∷ cs) ≡ within cs
    letter_within = within_more c cs (c ∷ first cs) (after_apostrophes (first cs)) (others cs)
        (first_more c cs false true ea el)
        (ap (λ (x : Bool). cond x (first cs ∷ after_apostrophes (first cs)) (after_apostrophes (first cs))) ea)
        (others_more c cs false true ea el)

    letter_key : key_of (first (c ∷ cs)) ≡ c ∷ key_of (first cs)
    letter_key = ap key_of (first_more c cs false true ea el) ∙ key_more c cs false true ea el (first cs)

    letter_fresh : fresh (c ∷ cs) ≡ (begins_text word (c ∷ cs) || within cs)
    letter_fresh = fresh_is (c ∷ cs) ∙ ap₂ ◌||◌ (ap one letter_key ∙ sym (begins_first word (c ∷ cs)
        ∙ ap (begins word) letter_key)) letter_within

  -- ---- what parts words
  module _ (c : ℕ) (cs : List ℕ) (ea : is_apostrophe c ≡ false) (el : is_letter c ≡ false) where
    gap_within : within (c ∷ cs) ≡ fresh cs
    gap_within = within_more c cs [] [] (slice_split is_gap cs) (first_more c cs false false ea el) refl
        (others_more c cs false false ea el)

    gap_fresh : fresh (c ∷ cs) ≡ fresh cs
    gap_fresh = fresh_is (c ∷ cs) ∙ ap₂ (λ (k : List ℕ) (b : Bool). one k || b)
        (ap key_of (first_more c cs false false ea el)) gap_within

  pub occurs_is : (starts : Bool) (cs : List ℕ) → occurs_in word starts cs ≡ cond starts (fresh cs) (within cs)
  occurs_is true [] = refl
  occurs_is false [] = refl
  occurs_is starts (c ∷ cs) = here (occurs_is true cs) (occurs_is false cs) (is_apostrophe c) (is_letter c) starts
      refl refl
    where
      here : occurs_in word true cs ≡ fresh cs → occurs_in word false cs ≡ within cs → (a l b : Bool)
          → is_apostrophe c ≡ a → is_letter c ≡ l
          → occurs_in word b (c ∷ cs) ≡ cond b (fresh (c ∷ cs)) (within (c ∷ cs))
      here begin go_on true l true ea el = more true c cs true l ea el ∙ begin ∙ sym (apostrophe_fresh c cs l ea el)
      here begin go_on true l false ea el = more false c cs true l ea el ∙ begin ∙ sym (apostrophe_within c cs l ea el)
      here begin go_on false true true ea el = more true c cs false true ea el
          ∙ ap (λ x. begins_text word (c ∷ cs) || x) go_on ∙ sym (letter_fresh c cs ea el)
      here begin go_on false true false ea el = more false c cs false true ea el ∙ go_on
          ∙ sym (letter_within c cs ea el)
      here begin go_on false false true ea el = more true c cs false false ea el ∙ begin ∙ sym (gap_fresh c cs ea el)
      here begin go_on false false false ea el = more false c cs false false ea el ∙ begin
          ∙ sym (gap_within c cs ea el)

  filled_append : (xs ys : List (List ℕ)) → filled (xs ++ ys) ≡ filled xs ++ filled ys
  filled_append [] ys = refl
  filled_append ([] ∷ xs) ys = filled_append xs ys
  filled_append ((c ∷ cs) ∷ xs) ys = ap (λ l. (c ∷ cs) ∷ l) (filled_append xs ys)

  any_append : (xs ys : List (List ℕ)) → any_of (xs ++ ys) ≡ (any_of xs || any_of ys)
  any_append xs ys = ap (λ l. list_any (begins word) (filled l)) (map-append key_of xs ys)
      ∙ ap (list_any (begins word)) (filled_append (map key_of xs) (map key_of ys))
      ∙ list_any-append (begins word) (filled (map key_of xs)) (filled (map key_of ys))

  -- a part begins where it begins
  pub any_whole : (parts : List (List ℕ)) → any_of parts ≡ true → any_of (flat_map beginnings parts) ≡ true
  any_whole [] e = e
  any_whole (part ∷ parts) e = here (λ h. any_whole parts h) (one (key_of part)) refl
      (sym (any_more (key_of part) (map key_of parts)) ∙ e)
    where
      here : (any_of parts ≡ true → any_of (flat_map beginnings parts) ≡ true) → (b : Bool) → one (key_of part) ≡ b
          → (one (key_of part) || any_of parts) ≡ true → any_of (flat_map beginnings (part ∷ parts)) ≡ true
      here rest true is h = any_more (key_of part) (map key_of (after_apostrophes part ++ flat_map beginnings parts))
          ∙ ap (λ b. b || any_of (after_apostrophes part ++ flat_map beginnings parts)) is
      here rest false is h = any_more (key_of part) (map key_of (after_apostrophes part ++ flat_map beginnings parts))
          ∙ or_right (one (key_of part)) (any_of (after_apostrophes part ++ flat_map beginnings parts))
          (any_append (after_apostrophes part) (flat_map beginnings parts)
          ∙ or_right (any_of (after_apostrophes part)) (any_of (flat_map beginnings parts))
          (rest (sym (ap (λ b. b || any_of parts) is) ∙ h)))

  -- the word begins a word of the text
  pub occurs_any : (cs : List ℕ) → occurs_in word true cs ≡ list_any (begins word) (found_by cs)
  occurs_any cs = occurs_is true cs
