-- Tests of lists into which an item is put, or of which some are removed.
use Rattle.std.proofs.Common.{
  ◌≡◌,
  ◌≢◌,
  ℕ,
  Bool,
  true,
  false,
  List,
  [],
  ◌∷◌,
  ◌++◌,
  filter,
  not,
  cond,
  refl,
  sym,
  ap,
  ap₂,
  ◌∙◌,
}
use Rattle.std.specs.Prelude.{◌==◌, ◌&&◌, ◌||◌}
use Rattle.std.specs.List.{list_any}
use Rattle.std.specs.Ordering.{nat_cmp, match_ordering}
use Rattle.std.specs.declared.cmp.Ordering.TheVariants.{Less, Equal, Greater}
use Rattle.std.specs.FinMap.{nat_cmp-IsAntisymmetric}
use Rattle.record_shapes.specs.Lists.{EachOf}
use Rattle.store_tables.specs.Rows.{put_by}
use Rattle.list_laws.proofs.Booleans.{or_second, or_first}
use Rattle.list_laws.proofs.Numbers.{other_way, is_not}
use Rattle.list_laws.proofs.Lists.{filter_all}

module _ {X : Type 0} (key : X → ℕ) where
  -- where the test fails of the item and of all others
  pub none_put : (q : X → Bool) (x : X) (xs : List X) → q x ≡ false → list_any q xs ≡ false
      → list_any q (put_by key x xs) ≡ false
  none_put q x [] here none = ap (λ b. b || false) here
  none_put q x (y ∷ ys) here none =
      let first = or_first (q y) (list_any q ys) none in
      let more = or_second (q y) (list_any q ys) none in
      elim (nat_cmp (key y) (key x)) as (λ o. list_any q
      (match_ordering o (y ∷ put_by key x ys) (x ∷ ys) (x ∷ y ∷ ys)) ≡ false) [
        | Less ↦ ap₂ (λ a b. a || b) first (none_put q x ys here more)
        | Equal ↦ ap₂ (λ a b. a || b) here more
        | Greater ↦ ap₂ (λ a b. a || b) here none
      ]

  -- where the test is one of another number
  pub any_put : (m : ℕ) (g : X → Bool) (x : X) (xs : List X) → key x ≢ m
      → list_any (λ y. (key y == m) && g y) (put_by key x xs) ≡ list_any (λ y. (key y == m) && g y) xs
  any_put m g x [] off = let apart = is_not (key x) m off in rw apart refl
  any_put m g x (y ∷ ys) off =
      let q = λ (y : X). (key y == m) && g y in
      let apart = is_not (key x) m off in
      elim (nat_cmp (key y) (key x)) as (λ o. nat_cmp (key y) (key x) ≡ o → list_any q
      (match_ordering o (y ∷ put_by key x ys) (x ∷ ys) (x ∷ y ∷ ys)) ≡ list_any q (y ∷ ys)) [
        | Less ↦ λ p. ap (λ b. q y || b) (any_put m g x ys off)
        | Equal ↦ λ p. let same : key y ≡ key x = nat_cmp-IsAntisymmetric (key y) (key x) p in
            rw (same, apart) refl
        | Greater ↦ λ p. rw apart refl
      ] refl

module _ {X : Type 0} (q p : X → Bool) where
  pub none_kept : (xs : List X) → list_any q xs ≡ false → list_any q (filter p xs) ≡ false
  none_kept [] none = refl
  none_kept (x ∷ xs) none =
      let first = or_first (q x) (list_any q xs) none in
      let more = none_kept xs (or_second (q x) (list_any q xs) none) in
      elim (p x) as (λ b. list_any q (cond b (x ∷ filter p xs) (filter p xs)) ≡ false) [
        | true ↦ ap₂ (λ a b. a || b) first more
        | false ↦ more
      ]

  -- where all that pass the test are kept
  pub any_kept : ((x : X) → p x ≡ false → q x ≡ false) → (xs : List X) → list_any q (filter p xs) ≡ list_any q xs
  any_kept h [] = refl
  any_kept h (x ∷ xs) =
      elim (p x) as (λ b. p x ≡ b → list_any q (cond b (x ∷ filter p xs) (filter p xs)) ≡ (q x || list_any q xs)) [
        | true ↦ λ e. ap (λ b. q x || b) (any_kept h xs)
        | false ↦ λ e. any_kept h xs ∙ ap (λ b. b || list_any q xs) (sym (h x e))
      ] refl

  pub filter_kept : ((x : X) → p x ≡ false → q x ≡ false) → (xs : List X) → filter q (filter p xs) ≡ filter q xs
  filter_kept h [] = refl
  filter_kept h (x ∷ xs) =
      elim (p x) as (λ b. p x ≡ b → filter q (cond b (x ∷ filter p xs) (filter p xs))
      ≡ cond (q x) (x ∷ filter q xs) (filter q xs)) [
        | true ↦ λ e. ap (λ ys. cond (q x) (x ∷ ys) ys) (filter_kept h xs)
        | false ↦ λ e. filter_kept h xs ∙ ap (λ b. cond b (x ∷ filter q xs) (filter q xs)) (sym (h x e))
      ] refl

pub filter_behind : {X : Type 0} (q : X → Bool) (xs : List X) (x : X) → q x ≡ false
    → filter q (xs ++ x ∷ []) ≡ filter q xs
filter_behind q [] x off = rw off refl
filter_behind q (y ∷ ys) x off = ap (λ zs. cond (q y) (y ∷ zs) zs) (filter_behind q ys x off)

-- ---- tests that fail of all items with the key of one that is put
pub filter_put : {X : Type 0} (key : X → ℕ) (q : X → Bool) (x : X) → ((y : X) → key y ≡ key x → q y ≡ false)
    → (xs : List X) → filter q (put_by key x xs) ≡ filter q xs
filter_put key q x off [] = ap (λ b. cond b (x ∷ []) []) (off x refl)
filter_put key q x off (y ∷ ys) =
    elim (nat_cmp (key y) (key x)) as (λ o. nat_cmp (key y) (key x) ≡ o
    → filter q (match_ordering o (y ∷ put_by key x ys) (x ∷ ys) (x ∷ y ∷ ys)) ≡ filter q (y ∷ ys)) [
      | Less ↦ λ p. ap (λ zs. cond (q y) (y ∷ zs) zs) (filter_put key q x off ys)
      | Equal ↦ λ p. let same : key y ≡ key x = nat_cmp-IsAntisymmetric (key y) (key x) p in
          ap (λ b. cond b (x ∷ filter q ys) (filter q ys)) (off x refl)
          ∙ sym (ap (λ b. cond b (y ∷ filter q ys) (filter q ys)) (off y same))
      | Greater ↦ λ p. ap (λ b. cond b (x ∷ filter q (y ∷ ys)) (filter q (y ∷ ys))) (off x refl)
    ] refl

-- ---- what several numbers have, removed

-- a number is not among these
abbrev pub is_outside : List ℕ → ℕ → Bool
is_outside ns m = not (list_any (λ k. k == m) ns)

module _ {X : Type 0} (key : X → ℕ) where
  pub one_more : (n : ℕ) (ns : List ℕ) (xs : List X)
      → filter (λ x. is_outside ns (key x)) (filter (λ x. not (key x == n)) xs)
      ≡ filter (λ x. is_outside (n ∷ ns) (key x)) xs
  one_more n ns [] = refl
  one_more n ns (x ∷ xs) =
      let p = λ (x : X). not (key x == n) in
      let q = λ (x : X). is_outside ns (key x) in
      let both = λ (x : X). is_outside (n ∷ ns) (key x) in
      let among = list_any (λ k. k == key x) ns in
      elim (key x == n) as (λ b. (key x == n) ≡ b → filter q (cond (not b) (x ∷ filter p xs) (filter p xs))
      ≡ cond (both x) (x ∷ filter both xs) (filter both xs)) [
        | true ↦ λ e. one_more n ns xs
            ∙ sym (ap (λ b. cond (not (b || among)) (x ∷ filter both xs) (filter both xs))
            (other_way (key x) n true e))
        | false ↦ λ e. ap (λ ys. cond (q x) (x ∷ ys) ys) (one_more n ns xs)
            ∙ sym (ap (λ b. cond (not (b || among)) (x ∷ filter both xs) (filter both xs))
            (other_way (key x) n false e))
      ] refl

  pub none_of_it : (n : ℕ) (xs : List X) → list_any (λ x. key x == n) xs ≡ false
      → filter (λ x. not (key x == n)) xs ≡ xs
  none_of_it n [] none = refl
  none_of_it n (x ∷ xs) none =
      let off = or_first (key x == n) (list_any (λ x. key x == n) xs) none in
      let more = or_second (key x == n) (list_any (λ x. key x == n) xs) none in
      ap (λ b. cond (not b) (x ∷ filter (λ x. not (key x == n)) xs) (filter (λ x. not (key x == n)) xs)) off
      ∙ ap (λ ys. x ∷ ys) (none_of_it n xs more)

  pub none_of_them : (ns : List ℕ) (xs : List X) → EachOf (λ n. list_any (λ x. key x == n) xs ≡ false) ns
      → filter (λ x. is_outside ns (key x)) xs ≡ xs
  none_of_them [] xs none = filter_all xs
  none_of_them (n ∷ ns) xs none =
      sym (one_more n ns xs) ∙ ap (filter (λ x. is_outside ns (key x))) (none_of_it n xs none.0)
      ∙ none_of_them ns xs none.1
