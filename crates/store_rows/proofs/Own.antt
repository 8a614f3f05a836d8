-- The rows of one number in a table whose rows have numbers: what a put, a removal and a change of rows make of them.
use Rattle.std.proofs.Common.{
  ◌≡◌,
  ◌≢◌,
  ℕ,
  true,
  false,
  List,
  [],
  ◌∷◌,
  ◌++◌,
  map,
  filter,
  not,
  cond,
  refl,
  ap,
  ◌∙◌,
  arith,
}
use Rattle.std.specs.Prelude.{◌==◌}
use Rattle.std.specs.Ordering.{nat_cmp, match_ordering}
use Rattle.std.specs.declared.cmp.Ordering.TheVariants.{Less, Equal, Greater}
use Rattle.std.specs.FinMap.{nat_cmp-IsAntisymmetric}
use Rattle.std.proofs.lemmas.Bool.Decides.{nat_tests}
use Rattle.std.proofs.lemmas.List.{append-nil}
use Rattle.std.proofs.lemmas.List.Elements.{filter-append}
use Rattle.store_tables.specs.Rows.{put_by}
use Rattle.list_laws.proofs.Numbers.{is_not}

pub either_way : (m n : ℕ) → (m == n) ≡ (n == m)
either_way m n = grind (arith, nat_tests)

below : (k j n : ℕ) → nat_cmp k j ≡ Less → j ≡ n → (k == n) ≡ false
below k j n p here = grind (arith, nat_tests, p, here)

module _ {X : Type 0} (key : X → ℕ) where
  -- the rows of a number, and all others
  abbrev pub own : ℕ → List X → List X
  own n = filter (λ x. key x == n)

  abbrev pub rest : ℕ → List X → List X
  rest n = filter (λ x. not (key x == n))

  pub put_here : (n : ℕ) (x : X) (xs : List X) → key x ≡ n → (more : List X) × (own n (put_by key x xs) ≡ x ∷ more)
  put_here n x [] here = let same : (key x == n) ≡ true = grind (arith, nat_tests) in ([], rw same refl)
  put_here n x (y ∷ ys) here =
      let same : (key x == n) ≡ true = grind (arith, nat_tests) in
      elim (nat_cmp (key y) (key x)) as (λ o. nat_cmp (key y) (key x) ≡ o → (more : List X)
      × (own n (match_ordering o (y ∷ put_by key x ys) (x ∷ ys) (x ∷ y ∷ ys)) ≡ x ∷ more)) [
        | Less ↦ λ p. let apart : (key y == n) ≡ false = below (key y) (key x) n p here in
            rw apart (put_here n x ys here)
        | Equal ↦ λ p. (own n ys, rw same refl)
        | Greater ↦ λ p. (own n (y ∷ ys), rw same refl)
      ] refl

  pub put_elsewhere : (m : ℕ) (x : X) (xs : List X) → key x ≢ m → own m (put_by key x xs) ≡ own m xs
  put_elsewhere m x [] off = rw (is_not (key x) m off) refl
  put_elsewhere m x (y ∷ ys) off =
      elim (nat_cmp (key y) (key x)) as (λ o. nat_cmp (key y) (key x) ≡ o
      → own m (match_ordering o (y ∷ put_by key x ys) (x ∷ ys) (x ∷ y ∷ ys)) ≡ own m (y ∷ ys)) [
        | Less ↦ λ p. ap (λ (zs : List X). cond (key y == m) (y ∷ zs) zs) (put_elsewhere m x ys off)
        | Equal ↦ λ p. let same : key y ≡ key x = nat_cmp-IsAntisymmetric (key y) (key x) p in
            rw (same, is_not (key x) m off) refl
        | Greater ↦ λ p. rw (is_not (key x) m off) refl
      ] refl

  pub none_left : (n : ℕ) (xs : List X) → own n (rest n xs) ≡ []
  none_left n [] = refl
  none_left n (x ∷ xs) =
      elim (key x == n) as (λ b. (key x == n) ≡ b → own n (cond (not b) (x ∷ rest n xs) (rest n xs)) ≡ []) [
        | true ↦ λ e. none_left n xs
        | false ↦ λ e. rw e (none_left n xs)
      ] refl

  -- a put where no row has the number
  pub put_alone : (n : ℕ) (x : X) (xs : List X) → key x ≡ n → own n xs ≡ [] → own n (put_by key x xs) ≡ x ∷ []
  put_alone n x [] here none = let same : (key x == n) ≡ true = grind (arith, nat_tests) in rw same refl
  put_alone n x (y ∷ ys) here none =
      let same : (key x == n) ≡ true = grind (arith, nat_tests) in
      elim (key y == n) as (λ b. (key y == n) ≡ b → cond b (y ∷ own n ys) (own n ys) ≡ []
      → own n (put_by key x (y ∷ ys)) ≡ x ∷ []) [
        | true ↦ λ e clash. absurd cc
        | false ↦ λ e left. elim (nat_cmp (key y) (key x)) as (λ o. own n
            (match_ordering o (y ∷ put_by key x ys) (x ∷ ys) (x ∷ y ∷ ys)) ≡ x ∷ []) [
              | Less ↦ rw e (put_alone n x ys here left)
              | Equal ↦ rw same (ap (λ zs. x ∷ zs) left)
              | Greater ↦ rw (same, e) (ap (λ zs. x ∷ zs) left)
            ]
      ] refl none

  pub others_left : (m n : ℕ) (xs : List X) → n ≢ m → own m (rest n xs) ≡ own m xs
  others_left m n [] off = refl
  others_left m n (x ∷ xs) off =
      elim (key x == n) as (λ b. (key x == n) ≡ b → own m (cond (not b) (x ∷ rest n xs) (rest n xs)) ≡ own m (x ∷ xs)) [
        | true ↦ λ e. let apart : (key x == m) ≡ false = grind (arith, nat_tests, e, off) in
            rw apart (others_left m n xs off)
        | false ↦ λ e. ap (λ (ys : List X). cond (key x == m) (x ∷ ys) ys) (others_left m n xs off)
      ] refl

  -- a change that leaves the numbers
  pub own_changed : (f : X → X) → ((x : X) → key (f x) ≡ key x) → (n : ℕ) (xs : List X)
      → own n (map f xs) ≡ map f (own n xs)
  own_changed f same n [] = refl
  own_changed f same n (x ∷ xs) = rw same
      (elim (key x == n) as (λ b. cond b (f x ∷ own n (map f xs)) (own n (map f xs)) ≡ map f
      (cond b (x ∷ own n xs) (own n xs))) [
        | true ↦ ap (λ ys. f x ∷ ys) (own_changed f same n xs)
        | false ↦ own_changed f same n xs
      ])

  -- one more row at the end
  pub more_here : (n : ℕ) (x : X) (xs : List X) → key x ≡ n → own n (xs ++ x ∷ []) ≡ own n xs ++ x ∷ []
  more_here n x xs here =
      let same : (key x == n) ≡ true = grind (arith, nat_tests) in
      filter-append (λ y. key y == n) xs (x ∷ []) ∙ ap (λ b. own n xs ++ cond b (x ∷ []) []) same

  pub more_elsewhere : (m : ℕ) (x : X) (xs : List X) → key x ≢ m → own m (xs ++ x ∷ []) ≡ own m xs
  more_elsewhere m x xs off =
      filter-append (λ y. key y == m) xs (x ∷ []) ∙ ap (λ b. own m xs ++ cond b (x ∷ []) []) (is_not (key x) m off)
      ∙ append-nil (own m xs)
