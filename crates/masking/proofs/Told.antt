-- What the records of more numbers tell.
use Rattle.std.proofs.Common.{
  ◌≡◌,
  ◌⊎◌,
  ◌↔◌,
  ◌==◌,
  ◌++◌,
  ◌+◌,
  ◌<◌,
  ◌≤◌,
  ℕ,
  List,
  length,
  take,
  get_or,
  [],
  ◌∷◌,
  true,
  false,
  refl,
  sym,
  subst,
  ◌∙◌,
  inl,
  inr,
  eqb-true,
  eq-eqb,
}
use Rattle.std.proofs.lemmas.Bool.{or_cases, or_left, or_right}
use Rattle.std.proofs.lemmas.List.{take_all, take_more}
use Rattle.std.proofs.lemmas.List.Folds.{list_any-append}
use Rattle.std.specs.Prelude.{Some}
use Rattle.std.specs.List.{list_any}
use Rattle.std.specs.BTreeSet.{BTreeSet}
use Rattle.std.specs.FinMap.{get, keys}
use Rattle.record_kinds.specs.declared.record.Record.{Record}
use Rattle.archive_state.specs.Content.{Records}
use Rattle.archive_state.proofs.MapKeys.{among_keys}
use Rattle.masking.specs.Sets.{IsIn, Has, Gets}
use Rattle.masking.specs.Telling.{IsTold, Telling}

module _ (m : Records) (T : Telling) where
  -- what the record of one number tells
  abbrev pub TellsAt : ℕ → ℕ → Type 0
  TellsAt k n = (r : Record) × (get m k ≡ Some r) × T k r n

  -- what the records of these numbers tell
  abbrev pub IsToldAmong : List ℕ → ℕ → Type 0
  IsToldAmong ks n = (k : ℕ) × (list_any (λ j. j == k) ks ≡ true) × TellsAt k n

  none_told : (n : ℕ) → IsToldAmong [] n → ⊥
  none_told n (k, among, told) = let no : false ≡ true = among in absurd cc

  pub has_none : (s : BTreeSet ℕ) → ((n : ℕ) → IsIn s n → ⊥) → Has s (IsToldAmong [])
  has_none s none = λ n. (λ i. absurd (none n i), λ t. absurd (none_told n t))

  one_told : (ks : List ℕ) (j n : ℕ) → IsToldAmong (ks ++ j ∷ []) n ↔ (IsToldAmong ks n ⊎ TellsAt j n)
  one_told ks j n = (
    λ (k, among, told). elim (or_cases (list_any (λ i. i == k) ks) (list_any (λ i. i == k) (j ∷ []))
        (sym (list_any-append (λ i. i == k) ks (j ∷ [])) ∙ among)) as (λ _. IsToldAmong ks n ⊎ TellsAt j n) [
          | inl before ↦ inl (k, before, told)
          | inr last ↦ inr (subst (λ x. TellsAt x n) (sym (it_is j k last)) told)
        ],
    λ o. elim o as (λ _. IsToldAmong (ks ++ j ∷ []) n) [
      | inl (k, before, told) ↦ (
        k,
        list_any-append (λ i. i == k) ks (j ∷ []) ∙ or_left (list_any (λ i. i == k) ks) _ before,
        told,
      )
      | inr told ↦ (
        j,
        list_any-append (λ i. i == j) ks (j ∷ []) ∙ or_right (list_any (λ i. i == j) ks) _ (is_it j),
        told,
      )
    ],
  ) where
    it_is : (j k : ℕ) → list_any (λ i. i == k) (j ∷ []) ≡ true → j ≡ k
    it_is j k e = elim (or_cases (j == k) false e) as (λ _. j ≡ k) [
      | inl is ↦ eqb-true j k is
      | inr never ↦ absurd (let wrong : false ≡ true = never in cc)
    ]

    is_it : (j : ℕ) → list_any (λ i. i == j) (j ∷ []) ≡ true
    is_it j = or_left (j == j) false (eq-eqb j j refl)

  pub has_more : (ks : List ℕ) (j : ℕ) (s t : BTreeSet ℕ) → Has s (IsToldAmong ks) → Gets s t (TellsAt j)
      → Has t (IsToldAmong (ks ++ j ∷ []))
  has_more ks j s t h k = λ n. (
    λ i. elim ((k n).0 i) as (λ _. IsToldAmong (ks ++ j ∷ []) n) [
      | inl was ↦ (one_told ks j n).1 (inl ((h n).0 was))
      | inr told ↦ (one_told ks j n).1 (inr told)
    ],
    λ x. elim ((one_told ks j n).0 x) as (λ _. IsIn t n) [
      | inl was ↦ (k n).1 (inl ((h n).1 was))
      | inr told ↦ (k n).1 (inr told)
    ],
  )

  -- the numbers of all records tell what all records tell
  pub has_all : (s : BTreeSet ℕ) → Has s (IsToldAmong (keys m)) → Has s (IsTold m T)
  has_all s h = λ n. (
    λ i. let (k, among, told) = (h n).0 i in (k, told.0, told.1, told.2),
    λ (k, r, at, tells). (h n).1 (k, among_keys m k r at, (r, at, tells)),
  )

  -- ---- a walk over them
  pub has_next : (s t : BTreeSet ℕ) (ns xs : List ℕ) (i : ℕ) → xs ≡ ns → i < length xs
      → Has s (IsToldAmong (take i ns)) → Gets s t (TellsAt (get_or xs i 0)) → Has t (IsToldAmong (take (i + 1) ns))
  has_next s t ns xs i same less h gets =
      subst (λ ks. Has t (IsToldAmong (take (i + 1) ks))) same
      (subst (λ ks. Has t (IsToldAmong ks)) (sym (take_more xs i 0 less))
      (has_more (take i xs) (get_or xs i 0) s t (subst (λ ks. Has s (IsToldAmong (take i ks))) (sym same) h) gets))

  pub has_whole : (s : BTreeSet ℕ) (xs : List ℕ) (i : ℕ) → xs ≡ keys m → length xs ≤ i
      → Has s (IsToldAmong (take i (keys m))) → Has s (IsTold m T)
  has_whole s xs i same all h = has_all s (subst (λ ks. Has s (IsToldAmong ks))
      (take_all i (keys m) (subst (λ ks. length ks ≤ i) same all)) h)
