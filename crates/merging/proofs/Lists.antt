-- One more of a list that is mapped.
use Rattle.std.proofs.Common.{◌≡◌, ℕ, ◌+◌, ◌<◌, List, [], ◌∷◌, ◌++◌, sym, ap, ◌∙◌, length, take, get_or}
use Rattle.std.specs.Prelude.{map}
use Rattle.std.proofs.lemmas.List.{map_push, take_more}

-- one more of a list that is mapped from its start on
pub mapped_more : {A B : Type 0} (f : A → B) (xs : List A) (i : ℕ) (x : A) (made more : List B) (y : B)
    → i < length xs → x ≡ get_or xs i x → made ≡ map f (take i xs) → y ≡ f x → more ≡ made ++ (y ∷ [])
    → more ≡ map f (take (i + 1) xs)
mapped_more f xs i x made more y h e was is pushed =
    pushed ∙ ap (λ l. l ++ (y ∷ [])) was ∙ ap (λ z. map f (take i xs) ++ (z ∷ [])) (is ∙ ap f e)
    ∙ sym (ap (map f) (take_more xs i x h) ∙ map_push f (take i xs) (get_or xs i x))
