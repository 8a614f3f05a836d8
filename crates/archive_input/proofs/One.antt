-- A row asks for one thing.
use Rattle.std.proofs.Common.{◌≡◌, ◌∙◌, ℕ, List, [], ◌∷◌, inl, inr, ap, sym}
use Rattle.commands.proofs.Again.{one_outcome}
use Rattle.archive_input.specs.Requests.{Asked, Asks, AsksText, AsksUnder, under}

one_under : (token : List ℕ) (fields : List (List ℕ)) (a b : Asked) → AsksUnder token fields a
    → AsksUnder token fields b → a ≡ b
one_under token [] a b x y = x.2 ∙ ap (under token) (x.1 ∙ sym y.1) ∙ sym y.2
one_under token (verb ∷ fields) a b x y = x.2 ∙ ap (under token) (one_outcome (verb ∷ fields) x.0 y.0 x.1 y.1) ∙ sym y.2

one_text : (row : List (List ℕ)) (a b : Asked) → AsksText row a → AsksText row b → a ≡ b
one_text [] a b x y = x ∙ sym y
one_text (token ∷ fields) a b (inl x) (inl y) = one_under token fields a b x.1 y.1
one_text (token ∷ fields) a b (inl x) (inr y) = absurd (y.0 x.0)
one_text (token ∷ fields) a b (inr x) (inl y) = absurd (x.0 y.0)
one_text (token ∷ fields) a b (inr x) (inr y) = x.1 ∙ sym y.1

pub one_thing : (row : List (List ℕ)) (a b : Asked) → Asks row a → Asks row b → a ≡ b
one_thing row a b (inl x) (inl y) = one_text row a b x.1 y.1
one_thing row a b (inl x) (inr y) = absurd (y.0 x.0)
one_thing row a b (inr x) (inl y) = absurd (x.0 y.0)
one_thing row a b (inr x) (inr y) = x.1 ∙ sym y.1
