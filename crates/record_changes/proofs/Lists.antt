-- What holds of each of a list holds of each that is left or changed.
use Rattle.std.proofs.Common.{ℕ, List, [], ◌∷◌, ◌++◌, Bool, true, false, cond, drop, suc, take, zero}
use Rattle.std.specs.List.{filter, flat_map, remove}
use Rattle.record_shapes.specs.Lists.{EachOf}
use Rattle.record_shapes.proofs.Each.{each_back, each_both, each_flat, each_front, each_of_flat}

-- what holds of each holds of each that is left
pub each_filtered : {A : Type 0} (P : A → Type 0) (test : A → Bool) (xs : List A) → EachOf P xs
    → EachOf P (filter test xs)
each_filtered P test [] h = tt
each_filtered P test (x ∷ xs) h = elim (test x) as (λ b. EachOf P (cond b (x ∷ filter test xs) (filter test xs))) [
  | true ↦ (h.0, each_filtered P test xs h.1)
  | false ↦ each_filtered P test xs h.1
]

pub each_taken : {A : Type 0} (P : A → Type 0) (i : ℕ) (xs : List A) → EachOf P xs → EachOf P (take i xs)
each_taken P zero xs h = tt
each_taken P (suc i) [] h = tt
each_taken P (suc i) (x ∷ xs) h = (h.0, each_taken P i xs h.1)

pub each_dropped : {A : Type 0} (P : A → Type 0) (i : ℕ) (xs : List A) → EachOf P xs → EachOf P (drop i xs)
each_dropped P zero xs h = h
each_dropped P (suc i) [] h = tt
each_dropped P (suc i) (x ∷ xs) h = each_dropped P i xs h.1

pub each_removed : {A : Type 0} (P : A → Type 0) (xs : List A) (i : ℕ) → EachOf P xs → EachOf P (remove xs i)
each_removed P xs i h =
    each_both P (take i xs) (drop (suc i) xs) (each_taken P i xs h) (each_dropped P (suc i) xs h)

-- the same of what each has
pub each_of_filtered : {A B : Type 0} (P : B → Type 0) (f : A → List B) (test : A → Bool) (xs : List A) (ys : List B)
    → EachOf P (flat_map f xs ++ ys) → EachOf P (flat_map f (filter test xs) ++ ys)
each_of_filtered P f test xs ys h =
    each_both P (flat_map f (filter test xs)) ys
    (each_flat P f (filter test xs) (each_filtered (λ x. EachOf P (f x)) test xs
    (each_of_flat P f xs (each_front P (flat_map f xs) ys h)))) (each_back P (flat_map f xs) ys h)

pub each_of_removed : {A B : Type 0} (P : B → Type 0) (f : A → List B) (xs : List A) (i : ℕ) (ys : List B)
    → EachOf P (flat_map f xs ++ ys) → EachOf P (flat_map f (remove xs i) ++ ys)
each_of_removed P f xs i ys h =
    each_both P (flat_map f (remove xs i)) ys
    (each_flat P f (remove xs i) (each_removed (λ x. EachOf P (f x)) xs i
    (each_of_flat P f xs (each_front P (flat_map f xs) ys h)))) (each_back P (flat_map f xs) ys h)

-- what holds of all before, and of what is left after it
pub after_front : {A : Type 0} (P : A → Type 0) (xs ys zs : List A) → (EachOf P ys → EachOf P zs) → EachOf P (xs ++ ys)
    → EachOf P (xs ++ zs)
after_front P xs ys zs f h = each_both P xs zs (each_front P xs ys h) (f (each_back P xs ys h))
