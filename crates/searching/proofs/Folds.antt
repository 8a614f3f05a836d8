-- How a text is folded, a character at a time.
use Rattle.std.proofs.Common.{
  ◌≡◌,
  ℕ,
  ◌+◌,
  ◌<◌,
  ◌≤◌,
  not,
  Bool,
  true,
  false,
  List,
  [],
  ◌∷◌,
  ◌++◌,
  length,
  get_or,
  take,
  cond,
  ap,
  sym,
  ◌∙◌,
  add-one,
  append-nil,
  append_assoc,
  arith,
}
use Rattle.std.specs.List.{filter, flat_map}
use Rattle.std.proofs.lemmas.List.Elements.{filter-append}
use Rattle.std.proofs.Math.Seq.{take-suc}
use Rattle.ucd_case.specs.CaseFolding.{full_fold, full_folding, or_itself}
use Rattle.caseless.specs.Caseless.{default_case_fold}
use Rattle.caseless.proofs.CaselessLemmas.{
  default_case_fold-append,
  default_case_fold-cons,
  default_case_fold-nil,
  full_fold-none,
  full_fold-some,
}
use Rattle.searching.specs.Folding.{apostrophes, folded, is_mark, kept, letters_of, plain_letters}

abbrev unmarked : ℕ → Bool
unmarked c = not (is_mark c)

pub kept_append : (xs ys : List ℕ) → kept (xs ++ ys) ≡ kept xs ++ kept ys
kept_append xs ys = ap default_case_fold (filter-append unmarked xs ys)
    ∙ default_case_fold-append (filter unmarked xs) (filter unmarked ys)

pub kept_nil : kept [] ≡ []
kept_nil = default_case_fold-nil

-- one more character
pub folded_more : (out mid all cs ds : List ℕ) (x : ℕ) → apostrophes cs ≡ x ∷ apostrophes ds
    → mid ≡ out ++ kept (letters_of x) → out ++ folded cs ≡ all → mid ++ folded ds ≡ all
folded_more out mid all cs ds x e m h = ap (λ l. l ++ folded ds) m
    ∙ append_assoc out (kept (letters_of x)) (folded ds)
    ∙ ap (λ l. out ++ l) (sym (ap (λ l. kept (flat_map letters_of l)) e
    ∙ kept_append (letters_of x) (flat_map letters_of (apostrophes ds)))) ∙ h

pub folded_end : (out all cs : List ℕ) → cs ≡ [] → out ++ folded cs ≡ all → out ≡ all
folded_end out all cs e h = sym (append-nil out) ∙ ap (λ l. out ++ l) (sym kept_nil)
    ∙ ap (λ l. out ++ folded l) (sym e) ∙ h

kept_one : (c : ℕ) (b : Bool) → is_mark c ≡ b → kept (c ∷ []) ≡ cond b [] (full_fold c)
kept_one c true e = rw e kept_nil
kept_one c false e = rw e (default_case_fold-cons c [] ∙ ap (λ l. full_fold c ++ l) default_case_fold-nil
    ∙ append-nil (full_fold c))

-- a mark is left out
pub kept_mark : (out : List ℕ) (c : ℕ) → is_mark c ≡ true → out ≡ out ++ kept (c ∷ [])
kept_mark out c e = sym (ap (λ l. out ++ l) (kept_one c true e) ∙ append-nil out)

-- what folds to itself
pub kept_itself : (out new : List ℕ) (c : ℕ) (table : List ℕ) → is_mark c ≡ false → table ≡ full_folding c
    → length table < 1 → new ≡ out ++ c ∷ [] → new ≡ out ++ kept (c ∷ [])
kept_itself out new c table e same none is = is
    ∙ ap (λ l. out ++ l) (sym (kept_one c false e ∙ full_fold-none c table same none))

-- what folds to others
pub kept_folded : (out new : List ℕ) (c : ℕ) (table : List ℕ) → is_mark c ≡ false → table ≡ full_folding c
    → 1 ≤ length table → new ≡ out ++ table → new ≡ out ++ kept (c ∷ [])
kept_folded out new c table e same some is = is
    ∙ ap (λ l. out ++ l) (sym (kept_one c false e ∙ full_fold-some c table same some))

-- a letter that stays as it is, and one that does not
pub letters_itself : (c : ℕ) (table : List ℕ) → table ≡ plain_letters c → length table < 1 → c ∷ [] ≡ letters_of c
letters_itself c [] same none = ap (or_itself c) same
letters_itself c (x ∷ xs) same none = absurd (omega arith)

pub letters_made : (c : ℕ) (table : List ℕ) → table ≡ plain_letters c → 1 ≤ length table → table ≡ letters_of c
letters_made c [] same some = absurd (omega arith)
letters_made c (x ∷ xs) same some = ap (or_itself c) same

-- one more letter of a list
pub kept_more : (old out new ls : List ℕ) (i c : ℕ) → i < length ls → c ≡ get_or ls i c
    → out ≡ old ++ kept (take i ls) → new ≡ out ++ kept (c ∷ []) → new ≡ old ++ kept (take (i + 1) ls)
kept_more old out new ls i c less at was is = is ∙ ap (λ l. l ++ kept (c ∷ [])) was
    ∙ append_assoc old (kept (take i ls)) (kept (c ∷ [])) ∙ ap (λ l. old ++ l)
    (sym (kept_append (take i ls) (c ∷ []))
    ∙ ap kept (sym (take-suc ls i c less ∙ ap (λ x. take i ls ++ x ∷ []) (sym at))
    ∙ ap (λ k. take k ls) (sym (add-one i))))
