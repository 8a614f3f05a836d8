-- A tree's lines grow into that tree, and what lines grow into has those lines.
use Rattle.std.specs.Prelude.{
  ℕ,
  nat_le,
  ◌+◌,
  ◌≡◌,
  ◌≢◌,
  ◌≤◌,
  List,
  [],
  ◌∷◌,
  ◌++◌,
  refl,
  true,
  false,
  length,
  cond,
  Option,
  Some,
  None,
  MatchOption,
}
use Rattle.std.specs.List.{list_any}
use Rattle.std.proofs.Common.{ap, sym, subst, arith, append_assoc, append-nil, ◌∙◌, ◌<◌, take, get_or, eqb}
use Rattle.std.proofs.lemmas.List.{take_more}
use Rattle.std.proofs.lemmas.Bool.{eqb-true}
use Rattle.std.proofs.lemmas.Bool.Decides.{nat_tests}
use Rattle.stored_lines.specs.Tree.{Tree, Forest, node, none, more, forest_of, flat, flat_all}
use Rattle.stored_lines.specs.Levels.{IsLow}
use Rattle.stored_lines.proofs.Levels.{low_tree}
use Rattle.stored_lines.specs.Growing.{fronts, backs, graft, grown, sole}
use Rattle.list_laws.proofs.Numbers.{at_self}

module _ {A : Type 0} where
  pub flat_all_push : (d : ℕ) (ts : List (Tree A)) (u : Tree A) → flat_all d (forest_of (ts ++ u ∷ []))
      ≡ flat_all d (forest_of ts) ++ flat d u
  flat_all_push d [] u = append-nil (flat d u)
  flat_all_push d (t ∷ ts) u = ap (λ ls. flat d t ++ ls) (flat_all_push d ts u)
      ∙ sym (append_assoc (flat d t) (flat_all d (forest_of ts)) (flat d u))

  pub flat_one_more : (d : ℕ) (ts : List (Tree A)) (i : ℕ) (u : Tree A) → i < length ts → u ≡ get_or ts i u
      → flat_all d (forest_of (take (i + 1) ts)) ≡ flat_all d (forest_of (take i ts)) ++ flat d u
  flat_one_more d ts i u h e = ap (λ us. flat_all d (forest_of us))
      (take_more ts i u h ∙ ap (λ v. take i ts ++ v ∷ []) (sym e)) ∙ flat_all_push d (take i ts) u

  abbrev pub beside : ℕ → Forest A → List (ℕ × Tree A) → List (ℕ × Tree A)
  beside d none ts = ts
  beside d (more t f) ts = (d, t) ∷ beside d f ts

  -- no tree at the head is deeper than that
  abbrev Low : ℕ → List (ℕ × Tree A) → Type 0
  Low d [] = Unit {0}
  Low d (t ∷ ts) = t.0 ≤ d

  Low-beside : (d : ℕ) (f : Forest A) (ts : List (ℕ × Tree A)) → Low d ts → Low d (beside d f ts)
  Low-beside d none ts h = h
  Low-beside d (more t f) ts h = omega arith

  Low-more : (d : ℕ) (ts : List (ℕ × Tree A)) → Low d ts → Low (d + 1) ts
  Low-more d [] h = tt
  Low-more d (t ∷ ts) h = omega arith

  fronts-low : (d : ℕ) (ts : List (ℕ × Tree A)) → Low d ts → fronts (d + 1) ts ≡ []
  fronts-low d [] h = refl
  fronts-low d (t ∷ ts) h = let low : t.0 ≤ d = h in grind (arith, nat_tests)

  backs-low : (d : ℕ) (ts : List (ℕ × Tree A)) → Low d ts → backs (d + 1) ts ≡ ts
  backs-low d [] h = refl
  backs-low d (t ∷ ts) h = let low : t.0 ≤ d = h in grind (arith, nat_tests)

  fronts-beside : (d : ℕ) (f : Forest A) (ts : List (ℕ × Tree A)) → Low d ts
      → forest_of (fronts (d + 1) (beside (d + 1) f ts)) ≡ f
  fronts-beside d none ts h = ap forest_of (fronts-low d ts h)
  fronts-beside d (more t f) ts h = ap forest_of (at_self (d + 1) (t ∷ fronts (d + 1) (beside (d + 1) f ts)) [])
      ∙ ap (more t) (fronts-beside d f ts h)

  backs-beside : (d : ℕ) (f : Forest A) (ts : List (ℕ × Tree A)) → Low d ts → backs (d + 1) (beside (d + 1) f ts) ≡ ts
  backs-beside d none ts h = backs-low d ts h
  backs-beside d (more t f) ts h = at_self (d + 1) (backs (d + 1) (beside (d + 1) f ts))
      ((d + 1, t) ∷ beside (d + 1) f ts) ∙ backs-beside d f ts h

  mutual
    grown-flat : (d : ℕ) (t : Tree A) (ls : List (ℕ × A)) → Low d (grown ls) → grown (flat d t ++ ls)
        ≡ (d, t) ∷ grown ls
    grown-flat d (node a f) ls h =
        ap (graft d a) (grown-flat_all (d + 1) f ls (Low-more d (grown ls) h))
        ∙ ap (λ g. (d, node a g) ∷ backs (d + 1) (beside (d + 1) f (grown ls))) (fronts-beside d f (grown ls) h)
        ∙ ap (λ ts. (d, node a f) ∷ ts) (backs-beside d f (grown ls) h)

    pub grown-flat_all : (d : ℕ) (f : Forest A) (ls : List (ℕ × A)) → Low d (grown ls)
        → grown (flat_all d f ++ ls) ≡ beside d f (grown ls)
    grown-flat_all d none ls h = refl
    grown-flat_all d (more t f) ls h =
        ap grown (append_assoc (flat d t) (flat_all d f) ls)
        ∙ grown-flat d t (flat_all d f ++ ls)
        (subst (Low d) (sym (grown-flat_all d f ls h)) (Low-beside d f (grown ls) h))
        ∙ ap (λ ts. (d, t) ∷ ts) (grown-flat_all d f ls h)

  -- a tree's lines grow into that tree
  pub grown_tree : (t : Tree A) → grown (flat 0 t) ≡ (0, t) ∷ []
  grown_tree t = ap grown (sym (append-nil (flat 0 t))) ∙ grown-flat 0 t [] tt

  -- the lines of trees, each from its depth on
  abbrev pub flats : List (ℕ × Tree A) → List (ℕ × A)
  flats [] = []
  flats (t ∷ ts) = flat t.0 t.1 ++ flats ts

  flats-parted : (d : ℕ) (ts : List (ℕ × Tree A)) → flat_all d (forest_of (fronts d ts)) ++ flats
      (backs d ts) ≡ flats ts
  flats-parted d [] = refl
  flats-parted d (t ∷ ts) =
      elim (eqb t.0 d) as (λ v. eqb t.0 d ≡ v → flat_all d (forest_of (cond v (t.1 ∷ fronts d ts) [])) ++ flats
      (cond v (backs d ts) (t ∷ ts)) ≡ flats (t ∷ ts)) [
        | true ↦ λ e. append_assoc (flat d t.1) (flat_all d (forest_of (fronts d ts))) (flats (backs d ts))
            ∙ ap (λ (x : List (ℕ × A)). flat d t.1 ++ x) (flats-parted d ts) ∙ ap (λ (n : ℕ). flat n t.1 ++ flats ts)
            (sym (eqb-true t.0 d e))
        | false ↦ λ e. refl
      ] refl

  -- what lines grow into has those lines
  pub flats-grown : (ls : List (ℕ × A)) → flats (grown ls) ≡ ls
  flats-grown [] = refl
  flats-grown (l ∷ ls) = ap (λ (x : List (ℕ × A)). l ∷ x) (flats-parted (l.0 + 1) (grown ls) ∙ flats-grown ls)

  sole-flat : (ts : List (ℕ × Tree A)) (t : Tree A) → Some t ≡ sole ts → flats ts ≡ flat 0 t
  sole-flat [] t e = absurd cc
  sole-flat (u ∷ []) t e =
      elim (eqb u.0 0) as (λ v. eqb u.0 0 ≡ v → Some t ≡ cond v (Some u.1) None → flats (u ∷ []) ≡ flat 0 t) [
        | true ↦ λ z f. append-nil (flat u.0 u.1) ∙ ap (λ (n : ℕ). flat n u.1) (eqb-true u.0 0 z)
            ∙ (let same : u.1 ≡ t = cc in ap (flat 0) same)
        | false ↦ λ z f. absurd cc
      ] refl e
  sole-flat (u ∷ w ∷ ts) t e = absurd cc

  -- a tree is found exactly where the lines are those of one
  pub sole_exact : (ls : List (ℕ × A)) (r : Option (Tree A)) → r ≡ sole (grown ls)
      → MatchOption r ((t : Tree A) → ls ≢ flat 0 t) (λ t. ls ≡ flat 0 t)
  sole_exact ls None e = λ t h. let found : sole (grown ls) ≡ Some t = ap (λ (x : List (ℕ × A)). sole (grown x)) h
      ∙ ap sole (grown_tree t) in absurd cc
  sole_exact ls (Some t) e = sym (flats-grown ls) ∙ sole-flat (grown ls) t e

  pub sole_low : (ls : List (ℕ × A)) (r : Option (Tree A)) → list_any (λ l. nat_le 128 l.0) ls ≡ false
      → r ≡ sole (grown ls) → MatchOption r ((t : Tree A) → IsLow t → ls ≢ flat 0 t) (λ t. IsLow t × (ls ≡ flat 0 t))
  sole_low ls None h e = λ t low. sole_exact ls None e t
  sole_low ls (Some t) h e = (low_tree ls t h (sole_exact ls (Some t) e), sole_exact ls (Some t) e)
