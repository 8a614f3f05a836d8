-- Each test decides its rule.
use Rattle.std.proofs.Common.{◌≡◌, List, [], ◌∷◌, Bool, true, refl, subst, IfSome}
use Rattle.std.specs.Prelude.{Option, Some, None}
use Rattle.std.specs.Bool.{Decides}
use Rattle.std.proofs.lemmas.Bool.Decides.{Decides-and}
use Rattle.std.specs.List.{list_all}
use Rattle.record_shapes.specs.Lists.{EachOf}
use Rattle.record_rules.specs.Judged.{all_some}

pub each_of : {A : Type 0} (p : A → Bool) (P : A → Type 0) → ((x : A) → Decides (p x) (P x)) → (xs : List A)
    → Decides (list_all p xs) (EachOf P xs)
each_of p P d [] = (λ _. tt, λ _. refl)
each_of p P d (x ∷ xs) = Decides-and (p x) (list_all p xs) (d x) (each_of p P d xs)

pub if_some : {A : Type 0} (p : A → Bool) (P : A → Type 0) → ((x : A) → Decides (p x) (P x)) → (o : Option A)
    → Decides (all_some p o) (IfSome o P)
if_some p P d None = (λ _. tt, λ _. refl)
if_some p P d (Some x) = d x

pub from_some : {X : Type 0} (p : X → Bool) (o : Option X) (x : X) → o ≡ Some x → all_some p o ≡ true → p x ≡ true
from_some p o x e h = subst (λ u. all_some p u ≡ true) e h

pub to_some : {X : Type 0} (p : X → Bool) (o : Option X) → ((x : X) → o ≡ Some x → p x ≡ true) → all_some p o ≡ true
to_some p None h = refl
to_some p (Some x) h = h x refl

pub to_all : {A : Type 0} (q : A → Bool) (xs : List A) → ((x : A) → q x ≡ true) → list_all q xs ≡ true
to_all q [] h = refl
to_all q (x ∷ xs) h = (Decides-and (q x) (list_all q xs) (λ i. i, λ i. i) (λ i. i, λ i. i)).1 (h x, to_all q xs h)
