-- Lists on which no number stands twice.
use Rattle.std.proofs.Common.{◌≡◌, ℕ, ◌==◌, Bool, true, false, not, cond, List, [], ◌∷◌, ◌++◌, refl, sym, ◌∙◌, arith}
use Rattle.std.specs.Prelude.{map}
use Rattle.std.specs.List.{filter}
use Rattle.std.proofs.lemmas.Bool.{or_parts}
use Rattle.std.proofs.lemmas.Bool.Decides.{nat_tests}
use Rattle.std.proofs.lemmas.List.Folds.{list_any-append}
use Rattle.record_shapes.specs.Lists.{EachOf, IsOnce}
use Rattle.record_shapes.proofs.Each.{has, each_more}
use Rattle.list_laws.proofs.Booleans.{or_none}

pub not_either : (n m : ℕ) → (m == n) ≡ false → (n == m) ≡ false
not_either n m e = grind (arith, nat_tests)

-- ---- lists after one another
module _ (n : ℕ) where
  pub has_both : (xs ys : List ℕ) → has n xs ≡ false → has n ys ≡ false → has n (xs ++ ys) ≡ false
  has_both xs ys e f = list_any-append (λ m. m == n) xs ys ∙ or_none (has n xs) (has n ys) e f

  pub has_parts : (xs ys : List ℕ) → has n (xs ++ ys) ≡ false → (has n xs ≡ false) × (has n ys ≡ false)
  has_parts xs ys e = or_parts (has n xs) (has n ys) (sym (list_any-append (λ m. m == n) xs ys) ∙ e)

-- one more in between
once_between : (xs ys : List ℕ) (n : ℕ) → IsOnce (xs ++ ys) → has n (xs ++ ys) ≡ false → IsOnce (xs ++ n ∷ ys)
once_between [] ys n o e = (e, o)
once_between (x ∷ xs) ys n o e =
    let apart = or_parts (x == n) (has n (xs ++ ys)) e in
    let there = has_parts x xs ys o.0 in (
      has_both x xs (n ∷ ys) there.0 (or_none (n == x) (has x ys) (not_either n x apart.0) there.1),
      once_between xs ys n o.1 apart.1,
    )

-- two lists of which none has what the other has
pub once_both : (xs ys : List ℕ) → IsOnce xs → IsOnce ys → EachOf (λ y. has y xs ≡ false) ys → IsOnce (xs ++ ys)
once_both [] ys o p h = p
once_both (x ∷ xs) ys o p h = (
  has_both x xs ys o.0 (none_of ys (each_more (λ y. has y (x ∷ xs) ≡ false) (λ y. (x == y) ≡ false)
      (λ y e. (or_parts (x == y) (has y xs) e).0) ys h)),
  once_both xs ys o.1 p (each_more (λ y. has y (x ∷ xs) ≡ false) (λ y. has y xs ≡ false)
      (λ y e. (or_parts (x == y) (has y xs) e).1) ys h),
)
  where
    none_of : (ys : List ℕ) → EachOf (λ y. (x == y) ≡ false) ys → has x ys ≡ false
    none_of [] h = refl
    none_of (y ∷ ys) h = or_none (y == x) (has x ys) (not_either y x h.0) (none_of ys h.1)

-- ---- picked
has_filter : (q : ℕ → Bool) (n : ℕ) (xs : List ℕ) → has n xs ≡ false → has n (filter q xs) ≡ false
has_filter q n [] e = refl
has_filter q n (x ∷ xs) e =
    let parts = or_parts (x == n) (has n xs) e in
    elim (q x) as (λ b. has n (cond b (x ∷ filter q xs) (filter q xs)) ≡ false) [
      | true ↦ or_none (x == n) (has n (filter q xs)) parts.0 (has_filter q n xs parts.1)
      | false ↦ has_filter q n xs parts.1
    ]

pub once_filter : (q : ℕ → Bool) (xs : List ℕ) → IsOnce xs → IsOnce (filter q xs)
once_filter q [] o = tt
once_filter q (x ∷ xs) o = elim (q x) as (λ b. IsOnce (cond b (x ∷ filter q xs) (filter q xs))) [
  | true ↦ (has_filter q x xs o.0, once_filter q xs o.1)
  | false ↦ once_filter q xs o.1
]

-- those that pass a test after those that do not
module _ {A : Type 0} (g : A → ℕ) (q : A → Bool) where
  abbrev apart : List A → List ℕ
  apart xs = map g (filter (λ x. not (q x)) xs) ++ map g (filter q xs)

  has_apart : (n : ℕ) (xs : List A) → has n (map g xs) ≡ false → has n (apart xs) ≡ false
  has_apart n [] e = refl
  has_apart n (x ∷ xs) e =
      let parts = or_parts (g x == n) (has n (map g xs)) e in
      let rest = has_parts n (map g (filter (λ y. not (q y)) xs)) (map g (filter q xs)) (has_apart n xs parts.1) in
      elim (q x) as (λ b. has n (map g (cond (not b) (x ∷ filter (λ y. not (q y)) xs) (filter (λ y. not (q y)) xs))
      ++ map g (cond b (x ∷ filter q xs) (filter q xs))) ≡ false) [
        | true ↦ has_both n (map g (filter (λ y. not (q y)) xs)) (g x ∷ map g (filter q xs)) rest.0
            (or_none (g x == n) (has n (map g (filter q xs))) parts.0 rest.1)
        | false ↦ or_none (g x == n) (has n (apart xs)) parts.0 (has_apart n xs parts.1)
      ]

  pub once_apart : (xs : List A) → IsOnce (map g xs) → IsOnce (apart xs)
  once_apart [] o = tt
  once_apart (x ∷ xs) o =
      elim (q x) as (λ b. IsOnce (map g (cond (not b) (x ∷ filter (λ y. not (q y)) xs) (filter (λ y. not (q y)) xs))
      ++ map g (cond b (x ∷ filter q xs) (filter q xs)))) [
        | true ↦ once_between (map g (filter (λ y. not (q y)) xs)) (map g (filter q xs)) (g x) (once_apart xs o.1)
            (has_apart (g x) xs o.0)
        | false ↦ (has_apart (g x) xs o.0, once_apart xs o.1)
      ]
