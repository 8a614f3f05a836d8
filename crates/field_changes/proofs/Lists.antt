-- Lists of which one element is changed.
use Rattle.std.proofs.Common.{◌≡◌, ℕ, List, [], ◌∷◌, ◌++◌, length, refl, ap, suc, zero}
use Rattle.std.specs.List.{flat_map}
use Rattle.corrections.specs.Lists.{changed_at}
use Rattle.record_shapes.specs.Lists.{EachOf}
use Rattle.record_shapes.proofs.Each.{each_back, each_both, each_flat, each_front, each_of_flat}

pub each_changed : {A : Type 0} (P : A → Type 0) (f : A → A) → ((a : A) → P a → P (f a)) → (i : ℕ) (xs : List A)
    → EachOf P xs → EachOf P (changed_at i f xs)
each_changed P f h i [] k = tt
each_changed P f h zero (x ∷ xs) k = (h x k.0, k.1)
each_changed P f h (suc i) (x ∷ xs) k = (k.0, each_changed P f h i xs k.1)

-- what each of all gives, from one list to another of which the same holds
pub each_given : {A B : Type 0} (P : B → Type 0) (g : A → List B) (xs zs : List A) (ys : List B)
    → (EachOf (λ a. EachOf P (g a)) xs → EachOf (λ a. EachOf P (g a)) zs) → EachOf P (flat_map g xs ++ ys)
    → EachOf P (flat_map g zs ++ ys)
each_given P g xs zs ys f h =
    each_both P (flat_map g zs) ys (each_flat P g zs (f (each_of_flat P g xs (each_front P (flat_map g xs) ys h))))
    (each_back P (flat_map g xs) ys h)

pub same_count : {A : Type 0} (f : A → A) (i : ℕ) (xs : List A) → length (changed_at i f xs) ≡ length xs
same_count f i [] = refl
same_count f zero (x ∷ xs) = refl
same_count f (suc i) (x ∷ xs) = ap suc (same_count f i xs)
