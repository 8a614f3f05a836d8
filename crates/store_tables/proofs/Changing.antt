-- One item of a list whose keys ascend, changed at its key.
use Rattle.std.proofs.Common.{
  ◌≡◌,
  ◌⊎◌,
  inl,
  inr,
  ℕ,
  ◌<◌,
  ◌==◌,
  List,
  [],
  ◌∷◌,
  map,
  filter,
  true,
  false,
  not,
  cond,
  refl,
  sym,
  ap,
  subst,
  ◌∙◌,
  arith,
  Less,
  Equal,
  Greater,
  nat_cmp,
  pos,
}
use Rattle.std.specs.List.{AllByRecursion}
use Rattle.std.specs.List.Sorted.{IsPermutation}
use Rattle.std.proofs.lemmas.Bool.Decides.{nat_tests}
use Rattle.std.proofs.lemmas.List.Sorted.{IsPermutation-refl}
use Rattle.sqlite.specs.declared.types.Value.TheVariants.{Int}
use Rattle.sqlite.specs.Order.{Row}
use Rattle.sqlite.specs.Tree.{IsAscending, rowid, put_row}
use Rattle.sqlite.specs.Edit.{without_all}
use Rattle.store_tables.specs.Rows.{Keeps, put_by}
use Rattle.store_tables.proofs.Coded.{all_lower, keeps_less, keeps_put}

-- the item of a key, changed, where there is one
abbrev pub changed_at : {X : Type 0} → (X → ℕ) → ℕ → (X → X) → List X → List X
changed_at key n g = map (λ x. cond (key x == n) (g x) x)

module _ {X : Type 0} (key : X → ℕ) where
  none_equal : (n : ℕ) (xs : List X) → AllByRecursion (λ x. n < key x) xs → filter (λ x. key x == n) xs ≡ []
  none_equal n [] h = refl
  none_equal n (x ∷ xs) h = let off : (key x == n) ≡ false = grind (arith, nat_tests, h.0) in
      rw off (none_equal n xs h.1)

  -- those with one key are none, or one
  pub at_key : (n : ℕ) (xs : List X) → IsAscending (λ a b. key a < key b) xs → (filter (λ x. key x == n) xs ≡ [])
      ⊎ ((x : X) × (filter (λ x. key x == n) xs ≡ x ∷ []) × (key x ≡ n))
  at_key n [] h = inl refl
  at_key n (x ∷ xs) h =
      elim (key x == n) as (λ b. (key x == n) ≡ b
      → (cond b (x ∷ filter (λ x. key x == n) xs) (filter (λ x. key x == n) xs) ≡ [])
      ⊎ ((y : X) × (cond b (x ∷ filter (λ x. key x == n) xs) (filter (λ x. key x == n) xs) ≡ y ∷ [])
      × (key y ≡ n))) [
        | true ↦ λ e. let same : key x ≡ n = grind (arith, nat_tests, e) in
            inr (
              x,
              ap (λ ys. x ∷ ys) (none_equal n xs (subst (λ k. AllByRecursion (λ y. k < key y) xs) same h.0)),
              same,
            )
        | false ↦ λ e. at_key n xs h.1
      ] refl

  unchanged_above : (n : ℕ) (g : X → X) (xs : List X) → AllByRecursion (λ x. n < key x) xs → changed_at key n g xs ≡ xs
  unchanged_above n g [] h = refl
  unchanged_above n g (x ∷ xs) h = let off : (key x == n) ≡ false = grind (arith, nat_tests, h.0) in
      rw (off, unchanged_above n g xs h.1) refl

  kept_above : (n : ℕ) (xs : List X) → AllByRecursion (λ x. n < key x) xs → filter (λ x. not (key x == n)) xs ≡ xs
  kept_above n [] h = refl
  kept_above n (x ∷ xs) h = let off : (key x == n) ≡ false = grind (arith, nat_tests, h.0) in
      rw (off, kept_above n xs h.1) refl

  first_above : (p : X) (xs : List X) → AllByRecursion (λ x. key p < key x) xs → put_by key p xs ≡ p ∷ xs
  first_above p [] h = refl
  first_above p (x ∷ xs) h = let above : nat_cmp (key x) (key p) ≡ Greater = grind (arith, nat_tests, h.0) in
      rw above refl

  -- where none has the key nothing is changed
  pub none_changed : (n : ℕ) (g : X → X) (xs : List X) → filter (λ x. key x == n) xs ≡ [] → changed_at key n g xs ≡ xs
  none_changed n g [] h = refl
  none_changed n g (x ∷ xs) h =
      elim (key x == n) as (λ b. cond b (x ∷ filter (λ x. key x == n) xs) (filter (λ x. key x == n) xs) ≡ []
      → cond b (g x) x ∷ changed_at key n g xs ≡ x ∷ xs) [
        | true ↦ λ e. absurd cc
        | false ↦ λ e. ap (λ ys. x ∷ ys) (none_changed n g xs e)
      ] h

  -- the one with the key, removed and put again
  pub one_changed : (n : ℕ) (g : X → X) (x : X) (xs : List X) → IsAscending (λ a b. key a < key b) xs
      → filter (λ x. key x == n) xs ≡ x ∷ [] → key (g x) ≡ n
      → put_by key (g x) (filter (λ x. not (key x == n)) xs) ≡ changed_at key n g xs
  one_changed n g x [] h e at = absurd cc
  one_changed n g x (y ∷ ys) h e at =
      elim (nat_cmp (key y) n) as (λ o. nat_cmp (key y) n ≡ o
      → put_by key (g x) (filter (λ x. not (key x == n)) (y ∷ ys)) ≡ changed_at key n g (y ∷ ys)) [
        | Less ↦ λ p.
            let off : (key y == n) ≡ false = grind (arith, nat_tests, p) in
            let low : nat_cmp (key y) (key (g x)) ≡ Less = ap (nat_cmp (key y)) at ∙ p in
            let rest : filter (λ x. key x == n) ys ≡ x ∷ [] = rw off at e in
            rw (off, low) (ap (λ zs. y ∷ zs) (one_changed n g x ys h.1 rest at))
        | Equal ↦ λ p.
            let same : key y ≡ n = grind (arith, nat_tests, p) in
            let on : (key y == n) ≡ true = grind (arith, nat_tests, same) in
            let above : AllByRecursion (λ z. n < key z) ys = subst (λ k. AllByRecursion (λ z. k < key z) ys) same h.0 in
            let first : y ∷ filter (λ x. key x == n) ys ≡ x ∷ [] = rw on at e in
            let is : y ≡ x = cc in
            rw (on, kept_above n ys above, unchanged_above n g ys above)
            (first_above (g x) ys (subst (λ k. AllByRecursion (λ z. k < key z) ys) (sym at) above)
            ∙ ap (λ z. g z ∷ ys) (sym is))
        | Greater ↦ λ p.
            let off : (key y == n) ≡ false = grind (arith, nat_tests, p) in
            let low : n < key y = grind (arith, nat_tests, p) in
            let rest : filter (λ x. key x == n) ys ≡ x ∷ [] = rw off at e in
            let more : AllByRecursion (λ z. n < key z) ys = all_lower key n (key y) ys low h.0 in
            let none : filter (λ x. key x == n) ys ≡ [] = none_equal n ys more in
            absurd (let both : [] ≡ x ∷ [] = sym none ∙ rest in cc)
      ] refl

  -- an item put over the one with its key
  pub put_over : (n : ℕ) (g : X → X) (p x : X) (xs : List X) → IsAscending (λ a b. key a < key b) xs
      → filter (λ x. key x == n) xs ≡ x ∷ [] → key p ≡ n → g x ≡ p
      → put_by key p xs ≡ changed_at key n g xs
  put_over n g p x [] h e at made = absurd cc
  put_over n g p x (y ∷ ys) h e at made =
      elim (nat_cmp (key y) n) as (λ o. nat_cmp (key y) n ≡ o → put_by key p (y ∷ ys) ≡ changed_at key n g (y ∷ ys)) [
        | Less ↦ λ q.
            let off : (key y == n) ≡ false = grind (arith, nat_tests, q) in
            let low : nat_cmp (key y) (key p) ≡ Less = ap (nat_cmp (key y)) at ∙ q in
            let rest : filter (λ x. key x == n) ys ≡ x ∷ [] = rw off at e in
            rw (off, low) (ap (λ zs. y ∷ zs) (put_over n g p x ys h.1 rest at made))
        | Equal ↦ λ q.
            let same : key y ≡ n = grind (arith, nat_tests, q) in
            let on : (key y == n) ≡ true = grind (arith, nat_tests, same) in
            let level : nat_cmp (key y) (key p) ≡ Equal = ap (nat_cmp (key y)) at ∙ q in
            let above : AllByRecursion (λ z. n < key z) ys = subst (λ k. AllByRecursion (λ z. k < key z) ys) same h.0 in
            let first : y ∷ filter (λ x. key x == n) ys ≡ x ∷ [] = rw on at e in
            let is : y ≡ x = cc in
            rw (on, level, unchanged_above n g ys above) (ap (λ z. z ∷ ys) (sym made ∙ ap g (sym is)))
        | Greater ↦ λ q.
            let off : (key y == n) ≡ false = grind (arith, nat_tests, q) in
            let low : n < key y = grind (arith, nat_tests, q) in
            let rest : filter (λ x. key x == n) ys ≡ x ∷ [] = rw off at e in
            let none : filter (λ x. key x == n) ys ≡ [] = none_equal n ys (all_lower key n (key y) ys low h.0) in
            absurd (let both : [] ≡ x ∷ [] = sym none ∙ rest in cc)
      ] refl

-- a row changed at its key
module _ {X : Type 0} (enc : X → Row) (key : X → ℕ) (keyed : (x : X) → rowid (enc x) ≡ Int (pos (key x))) where
  pub keeps_changed : (n : ℕ) (g : X → X) (x : X) (xs : List X) (rows : List Row) → filter (λ x. key x == n) xs ≡ x ∷ []
      → key x ≡ n → key (g x) ≡ n → Keeps enc key xs rows
      → Keeps enc key (changed_at key n g xs) (put_row (enc (g x)) (without_all rows (pos n ∷ [])))
  keeps_changed n g x xs rows e at after was =
      let ids : IsPermutation (map (λ y. pos (key y)) (filter (λ y. key y == n) xs)) (pos n ∷ []) =
      subst (λ ys. IsPermutation (map (λ y. pos (key y)) ys) (pos n ∷ [])) (sym e)
      (subst (λ k. IsPermutation (pos k ∷ []) (pos n ∷ [])) (sym at) (IsPermutation-refl (pos n ∷ []))) in
      let less = keeps_less enc key keyed (λ y. key y == n) xs rows (pos n ∷ []) ids was in
      subst (λ ys. Keeps enc key ys (put_row (enc (g x)) (without_all rows (pos n ∷ []))))
      (one_changed key n g x xs was.rise e after)
      (keeps_put enc key keyed (g x) (filter (λ y. not (key y == n)) xs) (without_all rows (pos n ∷ [])) less)
