-- Numbers that stand on lists, and numbers that stand there once.
use Rattle.std.specs.Prelude.{ℕ, ◌≡◌, ◌==◌, ◌||◌, Bool, true, false, cond, List, [], ◌∷◌, ◌++◌, map, refl}
use Rattle.std.specs.List.{filter, flat_map}
use Rattle.std.proofs.Common.{ap, sym, ◌∙◌, arith, eqb}
use Rattle.std.proofs.lemmas.Bool.{eqb-true}
use Rattle.std.proofs.lemmas.Bool.Decides.{nat_tests}
use Rattle.std.proofs.lemmas.List.Folds.{list_any-append}
use Rattle.record_shapes.specs.Lists.{EachOf, IsOnce}
use Rattle.list_laws.proofs.Booleans.{true_not_false, neither, or_left, or_right}
use Rattle.list_laws.proofs.Numbers.{same_self}
use Rattle.record_shapes.proofs.Each.{has}

-- ---- tests

pub other_way : (n k : ℕ) → (n == k) ≡ false → (k == n) ≡ false
other_way n k h = grind (arith, nat_tests)

-- ---- each of a list
pub each_filter : {A : Type 0} (P : A → Type 0) (q : A → Bool) (xs : List A) → EachOf P xs
    → EachOf (λ x. P x × (q x ≡ true)) (filter q xs)
each_filter P q [] h = tt
each_filter P q (x ∷ xs) h =
    elim (q x) as (λ b. q x ≡ b → EachOf (λ y. P y × (q y ≡ true)) (cond b (x ∷ filter q xs) (filter q xs))) [
      | true ↦ λ e. ((h.0, e), each_filter P q xs h.1)
      | false ↦ λ e. each_filter P q xs h.1
    ] refl

-- ---- lists filtered
pub filter_under : {A B : Type 0} (g : A → B) (p : B → Bool) (q : A → Bool) (xs : List A) → ((x : A) → p (g x) ≡ q x)
    → filter p (map g xs) ≡ map g (filter q xs)
filter_under g p q [] h = refl
filter_under g p q (x ∷ xs) h =
    ap (λ b. cond b (g x ∷ filter p (map g xs)) (filter p (map g xs))) (h x)
    ∙ elim (q x) as (λ b. cond b (g x ∷ filter p (map g xs)) (filter p (map g xs))
    ≡ map g (cond b (x ∷ filter q xs) (filter q xs))) [
      | true ↦ ap (λ ys. g x ∷ ys) (filter_under g p q xs h)
      | false ↦ filter_under g p q xs h
    ]

pub filter_all : {A : Type 0} (p : A → Bool) (xs : List A) → EachOf (λ x. p x ≡ true) xs → filter p xs ≡ xs
filter_all p [] h = refl
filter_all p (x ∷ xs) h = ap (λ b. cond b (x ∷ filter p xs) (filter p xs)) h.0 ∙ ap (λ us. x ∷ us) (filter_all p xs h.1)

pub map_each : {A B : Type 0} (f g : A → B) (xs : List A) → EachOf (λ x. f x ≡ g x) xs → map f xs ≡ map g xs
map_each f g [] h = refl
map_each f g (x ∷ xs) h = λ i. h.0 i ∷ map_each f g xs h.1 i

-- ---- a number stands on a list

pub has_first : (n : ℕ) (ks : List ℕ) → has n (n ∷ ks) ≡ true
has_first n ks = ap (λ b. b || has n ks) (same_self n)

pub has_left : (n : ℕ) (a b : List ℕ) → has n a ≡ true → has n (a ++ b) ≡ true
has_left n a b h = list_any-append (λ m. m == n) a b ∙ or_left (has n a) (has n b) h

pub has_right : (n : ℕ) (a b : List ℕ) → has n b ≡ true → has n (a ++ b) ≡ true
has_right n a b h = list_any-append (λ m. m == n) a b ∙ or_right (has n a) (has n b) h

pub has_neither : (n : ℕ) (a b : List ℕ) → has n a ≡ false → has n b ≡ false → has n (a ++ b) ≡ false
has_neither n a b h g = list_any-append (λ m. m == n) a b ∙ (λ i. h i || g i)

pub has_flat : (own : ℕ → List ℕ) (k n : ℕ) (ks : List ℕ) → has k ks ≡ true → has n (own k) ≡ true
    → has n (flat_map own ks) ≡ true
has_flat own k n [] h g = absurd cc
has_flat own k n (j ∷ ks) h g =
    elim (eqb j k) as (λ b. eqb j k ≡ b → (b || has k ks) ≡ true → has n (own j ++ flat_map own ks) ≡ true) [
      | true ↦ λ e i. has_left n (own j) (flat_map own ks) (ap (λ x. has n (own x)) (eqb-true j k e) ∙ g)
      | false ↦ λ e i. has_right n (own j) (flat_map own ks) (has_flat own k n ks i g)
    ] refl h

-- what is true of none on a list, is true of no number there
pub has_none_of : (d : ℕ → Bool) (k : ℕ) (js : List ℕ) → EachOf (λ j. d j ≡ false) js → d k ≡ true → has k js ≡ false
has_none_of d k [] f t = refl
has_none_of d k (j ∷ js) f t =
    elim (eqb j k) as (λ b. eqb j k ≡ b → (b || has k js) ≡ false) [
      | true ↦ λ e. absurd (true_not_false (sym t ∙ ap d (sym (eqb-true j k e)) ∙ f.0))
      | false ↦ λ e. has_none_of d k js f.1 t
    ] refl

pub apart_by : (d : ℕ → Bool) (ks js : List ℕ) → EachOf (λ k. d k ≡ true) ks → EachOf (λ j. d j ≡ false) js
    → EachOf (λ k. has k js ≡ false) ks
apart_by d [] js h g = tt
apart_by d (k ∷ ks) js h g = (has_none_of d k js g h.0, apart_by d ks js h.1 g)

-- ---- none stands twice

pub once_append : (a b : List ℕ) → IsOnce a → IsOnce b → EachOf (λ k. has k b ≡ false) a → IsOnce (a ++ b)
once_append [] b h g d = g
once_append (k ∷ a) b h g d = (has_neither k a b h.0 d.0, once_append a b h.1 g d.1)

-- of such a list, what stands after does not stand in front
pub once_not_front : (k : ℕ) (a b : List ℕ) → IsOnce (a ++ b) → has k b ≡ true → has k a ≡ false
once_not_front k [] b o h = refl
once_not_front k (j ∷ a) b o h =
    elim (eqb j k) as (λ c. eqb j k ≡ c → (c || has k a) ≡ false) [
      | true ↦ λ e. absurd
          (true_not_false (sym (has_right k a b h) ∙ ap (λ i. has i (a ++ b)) (sym (eqb-true j k e)) ∙ o.0))
      | false ↦ λ e. once_not_front k a b o.1 h
    ] refl

-- ---- lists of numbers that belong to different ones
module _ (root : ℕ → ℕ) (own : ℕ → List ℕ) where
  -- the numbers on the list of each stand there once, and belong to it
  abbrev pub Belong : List ℕ → Type 0
  Belong xs = EachOf (λ x. IsOnce (own x) × EachOf (λ k. root k ≡ x) (own x)) xs

  on_own : (k n : ℕ) (ks : List ℕ) → EachOf (λ m. root m ≡ n) ks → (root k ≡ n → ⊥) → has k ks ≡ false
  on_own k n [] h d = refl
  on_own k n (m ∷ ks) h d =
      elim (eqb m k) as (λ b. eqb m k ≡ b → (b || has k ks) ≡ false) [
        | true ↦ λ e. absurd (d (ap root (sym (eqb-true m k e)) ∙ h.0))
        | false ↦ λ e. on_own k n ks h.1 d
      ] refl

  on_others : (k n : ℕ) (xs : List ℕ) → root k ≡ n → has n xs ≡ false → Belong xs → has k (flat_map own xs) ≡ false
  on_others k n [] r h b = refl
  on_others k n (x ∷ xs) r h b =
      let both : ((x == n) ≡ false) × (has n xs ≡ false) = neither (x == n) (has n xs) h in
      has_neither k (own x) (flat_map own xs)
      (on_own k x (own x) b.0.1 (λ e. true_not_false (sym (same_self n) ∙ ap (λ m. m == n) (sym r ∙ e) ∙ both.0)))
      (on_others k n xs r both.1 b.1)

  apart_from : (n : ℕ) (xs : List ℕ) (ks : List ℕ) → EachOf (λ k. root k ≡ n) ks → has n xs ≡ false → Belong xs
      → EachOf (λ k. has k (flat_map own xs) ≡ false) ks
  apart_from n xs [] r h b = tt
  apart_from n xs (k ∷ ks) r h b = (on_others k n xs r.0 h b, apart_from n xs ks r.1 h b)

  -- no number stands twice on these lists one after the other
  pub once_flat : (xs : List ℕ) → IsOnce xs → Belong xs → IsOnce (flat_map own xs)
  once_flat [] h b = tt
  once_flat (x ∷ xs) h b = once_append (own x) (flat_map own xs) b.0.0 (once_flat xs h.1 b.1)
      (apart_from x xs (own x) b.0.1 h.0 b.1)
