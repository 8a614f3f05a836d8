-- An element of a list changed, by its index.
use Rattle.std.specs.Prelude.{◌≡◌, ◌<◌, ◌≤◌, ℕ, zero, suc, List, [], ◌∷◌, length, refl}
use Rattle.std.proofs.Common.{ap, arith, set, get_or, ◌∙◌}
use Rattle.corrections.specs.Lists.{changed_at}

pub set_changed : {A : Type 0} (f : A → A) (xs : List A) (i : ℕ) (m x : A) → i < length xs → m ≡ get_or xs i m → x
    ≡ f m
    → set xs i x ≡ changed_at i f xs
set_changed f [] i m x less is made = absurd (omega arith)
set_changed f (y ∷ ys) zero m x less is made = ap (λ z. z ∷ ys) (made ∙ ap f is)
set_changed f (y ∷ ys) (suc i) m x less is made =
    let below : i < length ys = omega arith in ap (λ zs. y ∷ zs) (set_changed f ys i m x below is made)

pub none_changed : {A : Type 0} (f : A → A) (xs : List A) (i : ℕ) → length xs ≤ i → xs ≡ changed_at i f xs
none_changed f [] i h = refl
none_changed f (y ∷ ys) zero h = absurd (omega arith)
none_changed f (y ∷ ys) (suc i) h =
    let rest : length ys ≤ i = omega arith in ap (λ zs. y ∷ zs) (none_changed f ys i rest)
