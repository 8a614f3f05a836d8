-- The first fields of a row, as many as are kept.
use Rattle.std.proofs.Common.{
  ◌≡◌,
  ◌∙◌,
  ◌+◌,
  ◌<◌,
  ◌≤◌,
  ◌++◌,
  ◌∷◌,
  ℕ,
  zero,
  suc,
  List,
  [],
  length,
  take,
  get_or,
  ap,
  sym,
  arith,
}
use Rattle.std.proofs.lemmas.List.{get_or-take, take_all, take_more}
use Rattle.request_csv.specs.Input.{Row, first_fields, kept_fields}

module _ {A : Type 0} where
  at_most : (n : ℕ) (xs : List A) → length (take n xs) ≤ n
  at_most zero xs = omega arith
  at_most (suc n) [] = omega arith
  at_most (suc n) (x ∷ xs) = omega (arith, at_most n xs)

  no_longer : (n : ℕ) (xs : List A) → length (take n xs) ≤ length xs
  no_longer zero xs = omega arith
  no_longer (suc n) [] = omega arith
  no_longer (suc n) (x ∷ xs) = omega (arith, no_longer n xs)

  pub reaches : (n i : ℕ) (xs : List A) → i < n → i < length xs → i < length (take n xs)
  reaches zero i xs few inside = absurd (omega (arith, few))
  reaches (suc n) i [] few inside = absurd (omega (arith, inside))
  reaches (suc n) zero (x ∷ xs) few inside = omega arith
  reaches (suc n) (suc i) (x ∷ xs) few inside = omega (
    arith,
    reaches n i xs (omega (arith, few)) (omega (arith, inside)),
  )

module _ (row : Row) (i : ℕ) where
  -- one that is kept is the next of them
  pub next_kept : i < length row → i < kept_fields
      → take (i + 1) (first_fields row) ≡ take i (first_fields row) ++ get_or row i [] ∷ []
  next_kept inside few =
      take_more (first_fields row) i [] (reaches kept_fields i row few inside)
      ∙ ap (λ (f : List ℕ). take i (first_fields row) ++ f ∷ []) (get_or-take kept_fields row i [] few)

  -- after them nothing is kept
  pub none_kept : kept_fields ≤ i → take (i + 1) (first_fields row) ≡ take i (first_fields row)
  none_kept behind =
      take_all (i + 1) (first_fields row) (omega (arith, behind, at_most kept_fields row))
      ∙ sym (take_all i (first_fields row) (omega (arith, behind, at_most kept_fields row)))

  pub all_kept : length row ≤ i → take i (first_fields row) ≡ first_fields row
  all_kept end = take_all i (first_fields row) (omega (arith, end, no_longer kept_fields row))
