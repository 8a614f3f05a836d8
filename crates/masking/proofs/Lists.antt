-- Lists of parts of records, of which something is left out.
use Rattle.std.proofs.Common.{◌≡◌, List, [], ◌∷◌, ◌++◌, Bool, true, false, cond, refl}
use Rattle.std.specs.Prelude.{map}
use Rattle.std.specs.List.{flat_map, filter}
use Rattle.record_shapes.specs.Lists.{EachOf}
use Rattle.record_shapes.proofs.Each.{each_front, each_back, each_both}

-- ---- parts that are changed, each by itself
module _ {A B : Type 0} (P Q : B → Type 0) (all : A → List B) (f : A → A)
    (one : (a : A) → EachOf P (all a) → EachOf Q (all (f a))) where
  pub each_part : (xs : List A) → EachOf P (flat_map all xs) → EachOf Q (flat_map all (map f xs))
  each_part [] h = tt
  each_part (x ∷ xs) h =
      each_both Q (all (f x)) (flat_map all (map f xs)) (one x (each_front P (all x) (flat_map all xs) h))
      (each_part xs (each_back P (all x) (flat_map all xs) h))

module _ {A B : Type 0} where
  pub map_same : (g : A → B) (f : A → A) → ((a : A) → g (f a) ≡ g a) → (xs : List A) → map g (map f xs) ≡ map g xs
  map_same g f h [] = refl
  map_same g f h (x ∷ xs) = λ i. h x i ∷ map_same g f h xs i

  pub flat_same : (g : A → List B) (f : A → A) → ((a : A) → g (f a) ≡ g a) → (xs : List A)
      → flat_map g (map f xs) ≡ flat_map g xs
  flat_same g f h [] = refl
  flat_same g f h (x ∷ xs) = λ i. h x i ++ flat_same g f h xs i

  -- ---- parts of which some are left out
  pub each_filtered : (P : B → Type 0) (g : A → List B) (keep : A → Bool) (xs : List A) → EachOf P (flat_map g xs)
      → EachOf P (flat_map g (filter keep xs))
  each_filtered P g keep [] h = tt
  each_filtered P g keep (x ∷ xs) h =
      by (keep x) (each_front P (g x) (flat_map g xs) h)
      (each_filtered P g keep xs (each_back P (g x) (flat_map g xs) h))
    where
      by : (b : Bool) → EachOf P (g x) → EachOf P (flat_map g (filter keep xs))
          → EachOf P (flat_map g (cond b (x ∷ filter keep xs) (filter keep xs)))
      by true first rest = each_both P (g x) (flat_map g (filter keep xs)) first rest
      by false first rest = rest

module _ {A : Type 0} where
  -- what holds of each part as it is changed
  pub each_changed : (P : A → Type 0) (f : A → A) → ((a : A) → P (f a)) → (xs : List A) → EachOf P (map f xs)
  each_changed P f h [] = tt
  each_changed P f h (x ∷ xs) = (h x, each_changed P f h xs)

-- a map of one element each, as lists of one
pub each_single : {A B : Type 0} (P : B → Type 0) (g : A → B) (xs : List A) → EachOf P (map g xs)
    → EachOf P (flat_map (λ a. g a ∷ []) xs)
each_single P g [] h = tt
each_single P g (x ∷ xs) h = (h.0, each_single P g xs h.1)

pub single_each : {A B : Type 0} (P : B → Type 0) (g : A → B) (xs : List A)
    → EachOf P (flat_map (λ a. g a ∷ []) xs) → EachOf P (map g xs)
single_each P g [] h = tt
single_each P g (x ∷ xs) h = (h.0, single_each P g xs h.1)
