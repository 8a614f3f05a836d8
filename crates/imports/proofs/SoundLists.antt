-- What holds of each of a list holds of each that is picked from it.
use Rattle.std.proofs.Common.{◌≡◌, Bool, true, false, cond, List, [], ◌∷◌, refl}
use Rattle.std.specs.Prelude.{IfSome}
use Rattle.std.specs.List.{filter}
use Rattle.record_shapes.specs.Lists.{EachOf}
use Rattle.record_shapes.specs.Picking.{first}
use Rattle.record_shapes.specs.Reading.{without}

pub each_filter : {A : Type 0} (P : A → Type 0) (q : A → Bool) (xs : List A) → EachOf P xs → EachOf P (filter q xs)
each_filter P q [] h = tt
each_filter P q (x ∷ xs) h = elim (q x) as (λ b. EachOf P (cond b (x ∷ filter q xs) (filter q xs))) [
  | true ↦ (h.0, each_filter P q xs h.1)
  | false ↦ each_filter P q xs h.1
]

pub filter_holds : {A : Type 0} (q : A → Bool) (xs : List A) → EachOf (λ x. q x ≡ true) (filter q xs)
filter_holds q [] = tt
filter_holds q (x ∷ xs) =
    elim (q x) as (λ b. q x ≡ b → EachOf (λ x. q x ≡ true) (cond b (x ∷ filter q xs) (filter q xs))) [
      | true ↦ λ e. (e, filter_holds q xs)
      | false ↦ λ e. filter_holds q xs
    ] refl

pub each_without : {A : Type 0} (P : A → Type 0) (q : A → Bool) (xs : List A) → EachOf P xs → EachOf P (without q xs)
each_without P q [] h = tt
each_without P q (x ∷ xs) h = elim (q x) as (λ b. EachOf P (cond b xs (x ∷ without q xs))) [
  | true ↦ h.1
  | false ↦ (h.0, each_without P q xs h.1)
]

pub if_first : {A : Type 0} (P : A → Type 0) (xs : List A) → EachOf P xs → IfSome (first xs) P
if_first P [] h = tt
if_first P (x ∷ xs) h = h.0
