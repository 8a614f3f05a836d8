-- What the tests over lists say, in the words of the definitions.
use Rattle.std.proofs.Common.{
  ◌≡◌,
  ℕ,
  suc,
  ◌<◌,
  ◌==◌,
  ◌&&◌,
  ◌↔◌,
  Bool,
  true,
  false,
  List,
  [],
  ◌∷◌,
  ◌++◌,
  length,
  get_or,
  map,
  refl,
  ap,
  ap₂,
  sym,
  subst,
  ◌∙◌,
  append-nil,
  suc-le-suc,
  zero-le,
}
use Rattle.std.specs.Bool.{IsTrue}
use Rattle.std.specs.Global.{Vec}
use Rattle.std.specs.List.{Contains, list_all, list_any, slice_split}
use Rattle.std.proofs.lemmas.List.Folds.{list_all-map, list_all_at, list_any_at}
use Rattle.list_laws.proofs.Booleans.{both_true, true_not_false}
use Rattle.list_laws.proofs.Numbers.{it, same_self}
use Rattle.searching.specs.Scans.{items, occurs_in}
use Rattle.searching.specs.Words.{AllOccur, Begins, all_occur, begins, found_by, is_gap, words_of}
use Rattle.searching.proofs.Occurring.{any_whole, occurs_any}

module _ {X : Type 0} (p : X → Bool) where
  found : (xs : List X) → list_any p xs ≡ true → (x : X) × Contains xs x × (p x ≡ true)
  found [] e = absurd cc
  found (x ∷ xs) e = here (λ h. found xs h) (p x) refl e
    where
      here : (list_any p xs ≡ true → (y : X) × Contains xs y × (p y ≡ true)) → (b : Bool) → p x ≡ b
          → list_any p (x ∷ xs) ≡ true → (y : X) × Contains (x ∷ xs) y × (p y ≡ true)
      here rest true is e = (x, (0, suc-le-suc zero-le, refl), is)
      here rest false is e = let r = rest (rw is at e) in (r.0, (suc r.1.0, suc-le-suc r.1.1, r.1.2), r.2)

  any_true : (xs : List X) (x : X) → Contains xs x → p x ≡ true → list_any p xs ≡ true
  any_true xs x here e = list_any_at p xs here.0 x here.1 (ap p here.2 ∙ e)

  each_true : (xs : List X) (x : X) → list_all p xs ≡ true → Contains xs x → p x ≡ true
  each_true xs x all here = cases (p x) refl
    where
      cases : (b : Bool) → p x ≡ b → p x ≡ true
      cases true is = is
      cases false is = absurd (true_not_false (sym all ∙ list_all_at p xs here.0 x here.1 (ap p here.2 ∙ is)))

  all_true : (xs : List X) → ((x : X) → Contains xs x → p x ≡ true) → list_all p xs ≡ true
  all_true [] f = refl
  all_true (x ∷ xs) f = ap₂ ◌&&◌ (f x (0, suc-le-suc zero-le, refl))
      (all_true xs (λ y i. f y (suc i.0, suc-le-suc i.1, i.2)))

begins_so : (word key : List ℕ) → begins word key ≡ true → Begins word key
begins_so [] key e = (key, refl)
begins_so (x ∷ xs) [] e = absurd cc
begins_so (x ∷ xs) (c ∷ cs) e =
    let both = both_true (x == c) (begins xs cs) e in
    let rest = begins_so xs cs both.1 in
    (rest.0, ap₂ ◌∷◌ (it x c both.0) rest.1)

begins_self : (word rest : List ℕ) → begins word (word ++ rest) ≡ true
begins_self [] rest = refl
begins_self (x ∷ xs) rest = ap₂ ◌&&◌ (same_self x) (begins_self xs rest)

so_begins : (word key : List ℕ) → Begins word key → begins word key ≡ true
so_begins word key so = subst (λ k. begins word k ≡ true) so.1 (begins_self word so.0)

-- the test is the fact
pub all_occur_says : (words : List (List ℕ)) (text : List ℕ) → IsTrue (all_occur words text) ↔ AllOccur words text
all_occur_says words text = (there, back)
  where
    there : IsTrue (all_occur words text) → AllOccur words text
    there all word here =
        let key = found (begins word) (found_by text)
        (each_true (λ w. list_any (begins w) (found_by text)) words word all here) in
        (key.0, key.1, begins_so word key.0 key.2)

    back : AllOccur words text → IsTrue (all_occur words text)
    back all = all_true (λ w. list_any (begins w) (found_by text)) words (λ word here.
        let key = all word here in
        any_true (begins word) (found_by text) key.0 key.1 (so_begins word key.0 key.2))

alike : {X : Type 0} (p q : X → Bool) → ((x : X) → p x ≡ q x) → (xs : List X) → list_all p xs ≡ list_all q xs
alike p q same [] = refl
alike p q same (x ∷ xs) = ap₂ ◌&&◌ (same x) (alike p q same xs)

-- what is gone through is the test
pub scanned_all : (words : List (List ℕ)) (text : List ℕ) (b : Bool)
    → b ≡ list_all (λ w. occurs_in w true text) words → b ≡ all_occur words text
scanned_all words text b is = is ∙ alike (λ w. occurs_in w true text) (λ w. list_any (begins w) (found_by text))
    (λ w. occurs_any w text) words

-- one word does not occur
pub one_fails : (text : List ℕ) (words : List (Vec ℕ)) (i : ℕ) (word : Vec ℕ) → i < length words
    → word ≡ get_or words i word → occurs_in word.items true text ≡ false
    → false ≡ list_all (λ w. occurs_in w true text) (map items words)
one_fails text words i word less at misses = sym (list_all-map (λ w. occurs_in w true text) items words
    ∙ list_all_at (λ (v : Vec ℕ). occurs_in v.items true text) words i word less
    (ap (λ (v : Vec ℕ). occurs_in v.items true text) (sym at) ∙ misses))

-- a text is found by each of its words
pub found_by_own : (text : List ℕ) → AllOccur (words_of text) text
found_by_own text word here =
    let itself : begins word word ≡ true = so_begins word word ([], append-nil word) in
    let whole = any_true (begins word) (words_of text) word here itself in
    let key = found (begins word) (found_by text) (any_whole word (slice_split is_gap text) whole) in
    (key.0, key.1, begins_so word key.0 key.2)
