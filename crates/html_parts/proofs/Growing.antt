-- A list that grows by the parts of one item after another.
use Rattle.std.proofs.Common.{◌≡◌, ℕ, ◌+◌, ◌<◌, ◌++◌, ◌∷◌, [], List, length, get_or, take, flat_map, ap, sym, ◌∙◌}
use Rattle.std.proofs.Common.{add-one, append-nil}
use Rattle.std.proofs.lemmas.List.{append_assoc}
use Rattle.std.proofs.lemmas.Grind.{flat_map-append}
use Rattle.std.proofs.Math.Seq.{take-suc}

-- one more item
more_is : {X A : Type 0} (f : X → List A) (xs : List X) (x : X) → flat_map f (xs ++ x ∷ []) ≡ flat_map f xs ++ f x
more_is f xs x = flat_map-append f xs (x ∷ []) ∙ ap (λ l. flat_map f xs ++ l) (append-nil (f x))

-- what one more item of a list has is appended
pub then_next : {X A : Type 0} (f : X → List A) (xs : List X) (i : ℕ) (x : X) (old out new : List A) → i < length xs
    → x ≡ get_or xs i x → new ≡ out ++ f x → out ≡ old ++ flat_map f (take i xs)
    → new ≡ old ++ flat_map f (take (i + 1) xs)
then_next {X} {A} f xs i x old out new less at e before =
    let more : take (i + 1) xs ≡ take i xs ++ x ∷ [] = ap (λ (k : ℕ). take k xs) (add-one i) ∙ take-suc xs i x less
    ∙ ap (λ (y : X). take i xs ++ y ∷ []) (sym at) in
    e ∙ ap (λ (l : List A). l ++ f x) before ∙ append_assoc old (flat_map f (take i xs)) (f x)
    ∙ ap (λ (l : List A). old ++ l) (sym (more_is f (take i xs) x))
    ∙ ap (λ (ys : List X). old ++ flat_map f ys) (sym more)
