-- A list that is sorted by owners: a stable sort keeps what each owner has, and what one has stands side by side.
use Rattle.std.proofs.Common.{
  refl,
  List,
  ap,
  ◌≡◌,
  true,
  ◌∷◌,
  Bool,
  ◌∙◌,
  cond,
  sym,
  [],
  false,
  get_or,
  ℕ,
  ◌<◌,
  arith,
  drop,
  zero,
  length,
  suc,
  take,
  ◌≤◌,
  ◌==◌,
  ltb,
  leb,
  length-drop,
  ◌+◌,
  ◌&&◌,
  not,
  eqb-true,
  ◌-◌,
}
use Rattle.std.specs.List.{filter}
use Rattle.std.proofs.lemmas.Bool.Decides.{nat_tests}
use Rattle.std.proofs.lemmas.List.{get_or-drop}
use Rattle.std.specs.List.Sorted.{IsPartitionPoint, IsStableByKey}
use Rattle.std.specs.Ordering.{is_lt, nat_cmp}
use Rattle.std.proofs.lemmas.List.Elements.{filter_agree}
use Rattle.std.proofs.Math.Seq.{take-length}

head_passes : {X : Type 0} (p : X → Bool) (xs : List X) (x : X) (more : List X) → filter p xs ≡ x ∷ more → p x ≡ true
head_passes p [] x more e = absurd cc
head_passes p (y ∷ ys) x more e =
    elim (p y) as (λ b. p y ≡ b → cond b (y ∷ filter p ys) (filter p ys) ≡ x ∷ more → p x ≡ true) [
      | true ↦ λ t is. let same : y ≡ x = cc in ap p (sym same) ∙ t
      | false ↦ λ t is. head_passes p ys x more is
    ] refl e

front_fails : {X : Type 0} (p : X → Bool) (xs : List X) (a : ℕ)
    → ((k : ℕ) (d : X) → k < a → k < length xs → p (get_or xs k d) ≡ false) → filter p xs ≡ filter p (drop a xs)
front_fails p [] zero h = refl
front_fails p [] (suc a) h = refl
front_fails p (x ∷ xs) zero h = refl
front_fails p (x ∷ xs) (suc a) h =
    ap (λ b. cond b (x ∷ filter p xs) (filter p xs)) (h 0 x (omega arith) (omega arith))
    ∙ front_fails p xs a (λ k d less inside. h (suc k) d (omega arith) (omega arith))

back_fails : {X : Type 0} (p : X → Bool) (xs : List X) (b : ℕ)
    → ((k : ℕ) (d : X) → k < b → k < length xs → p (get_or xs k d) ≡ true)
    → ((k : ℕ) (d : X) → b ≤ k → k < length xs → p (get_or xs k d) ≡ false) → filter p xs ≡ take b xs
back_fails p [] zero h g = refl
back_fails p [] (suc b) h g = refl
back_fails p (x ∷ xs) zero h g =
    ap (λ t. cond t (x ∷ filter p xs) (filter p xs)) (g 0 x (omega arith) (omega arith))
    ∙ back_fails p xs zero (λ k d less inside. absurd (omega arith))
    (λ k d more inside. g (suc k) d (omega arith) (omega arith))
back_fails p (x ∷ xs) (suc b) h g =
    ap (λ t. cond t (x ∷ filter p xs) (filter p xs)) (h 0 x (omega arith) (omega arith))
    ∙ ap (λ l. x ∷ l) (back_fails p xs b (λ k d less inside. h (suc k) d (omega arith) (omega arith))
    (λ k d more inside. g (suc k) d (omega arith) (omega arith)))

less_apart : (a n : ℕ) → ltb a n ≡ true → (a == n) ≡ false
less_apart a n e = grind (arith, nat_tests)

same_owner : (a n : ℕ) → ltb a n ≡ false → leb a n ≡ true → (a == n) ≡ true
same_owner a n e f = grind (arith, nat_tests)

more_apart : (a n : ℕ) → leb a n ≡ false → (a == n) ≡ false
more_apart a n e = grind (arith, nat_tests)

pub part_is : {X : Type 0} (owner : X → ℕ) (n : ℕ) (xs : List X) (a b : ℕ)
    → IsPartitionPoint (λ x. ltb (owner x) n ≡ true) (λ x. ltb (owner x) n ≡ false) xs a
    → IsPartitionPoint (λ x. leb (owner x) n ≡ true) (λ x. leb (owner x) n ≡ false) (drop a xs) b
    → filter (λ x. owner x == n) xs ≡ take b (drop a xs)
part_is owner n xs a b h g =
    front_fails (λ x. owner x == n) xs a (λ k d less inside. less_apart (owner (get_or xs k d)) n
    (h.0 k d (omega arith) less))
    ∙ back_fails (λ x. owner x == n) (drop a xs) b
    (λ k d less inside.
    let at = get_or-drop a xs k d in
    let far : a + k < length xs = omega (arith, length-drop a xs) in
    same_owner (owner (get_or (drop a xs) k d)) n
    (ap (λ x. ltb (owner x) n) at ∙ h.1 (a + k) d (omega arith) far)
    (g.0 k d (omega arith) less))
    (λ k d more inside. more_apart (owner (get_or (drop a xs) k d)) n (g.1 k d more inside))

tie : (a n b : ℕ) → a ≡ n → (b == n) ≡ (not (is_lt (nat_cmp a b)) && not (is_lt (nat_cmp b a)))
tie a n b e = grind (arith, nat_tests)

stable_from : {X : Type 0} (owner : X → ℕ) (xs ys : List X) → IsStableByKey owner nat_cmp xs ys → (n : ℕ) (x : X)
    → (owner x == n) ≡ true → filter (λ y. owner y == n) ys ≡ filter (λ y. owner y == n) xs
stable_from {X = X} owner xs ys stable n x is =
    let t = λ (y : X). tie (owner x) n (owner y) (eqb-true (owner x) n is) in
    filter_agree (λ y. owner y == n) (λ y. not (is_lt (nat_cmp (owner x) (owner y))) && not
    (is_lt (nat_cmp (owner y) (owner x)))) t ys
    ∙ stable x
    ∙ sym (filter_agree (λ y. owner y == n)
    (λ y. not (is_lt (nat_cmp (owner x) (owner y))) && not (is_lt (nat_cmp (owner y) (owner x)))) t xs)

pub stable_is : {X : Type 0} (owner : X → ℕ) (xs ys : List X) → IsStableByKey owner nat_cmp xs ys → (n : ℕ)
    → filter (λ y. owner y == n) ys ≡ filter (λ y. owner y == n) xs
stable_is {X} owner xs ys stable n =
    let p : X → Bool = λ y. owner y == n in
    elim (filter p ys) as (λ l. filter p ys ≡ l → filter p ys ≡ filter p xs) [
      | (x ∷ more) ↦ λ e. stable_from owner xs ys stable n x (head_passes p ys x more e)
      | [] ↦ λ none. elim (filter p xs) as (λ l. filter p xs ≡ l → filter p ys ≡ filter p xs) [
        | (x ∷ more) ↦ λ e. stable_from owner xs ys stable n x (head_passes p xs x more e)
        | [] ↦ λ e. none ∙ sym e
      ] refl
    ] refl

pub rest_is : {X : Type 0} (xs : List X) (a : ℕ) → take (length xs - a) (drop a xs) ≡ drop a xs
rest_is xs a = rw (← length-drop a xs) (take-length (drop a xs))
