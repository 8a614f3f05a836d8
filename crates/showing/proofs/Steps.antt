-- Texts that are appended one after another.
use Rattle.std.proofs.Common.{◌≡◌, ℕ, ◌+◌, ◌<◌, ◌++◌, ◌∷◌, [], List, length, get_or, take, ap, sym, ◌∙◌, add-one}
use Rattle.std.specs.List.{flat_map}
use Rattle.std.proofs.Math.Seq.{take-suc}
use Rattle.std.proofs.lemmas.List.{flat_map_more}

-- the text of one more of a list is appended
pub then_next : {X : Type 0} (f : X → List ℕ) (xs : List X) (i : ℕ) (x : X) (old out new : List ℕ) → i < length xs
    → x ≡ get_or xs i x → new ≡ out ++ f x → out ≡ old ++ flat_map f (take i xs)
    → new ≡ old ++ flat_map f (take (i + 1) xs)
then_next {X} f xs i x old out new less at e before =
    let more : take (i + 1) xs ≡ take i xs ++ x ∷ [] = ap (λ (k : ℕ). take k xs) (add-one i) ∙ take-suc xs i x less
    ∙ ap (λ (y : X). take i xs ++ y ∷ []) (sym at) in
    e ∙ ap (λ (t : List ℕ). t ++ f x) before ∙ flat_map_more f old (take i xs) x
    ∙ ap (λ (ys : List X). old ++ flat_map f ys) (sym more)
