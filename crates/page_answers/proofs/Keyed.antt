-- The parts of a key, put together one after the other.
use Rattle.std.proofs.Common.{◌≡◌, ℕ, List, [], ◌∷◌, ◌++◌, ◌∙◌, append_assoc}

pub joined : (k i p : List ℕ) → (((k ++ (0 ∷ [])) ++ i) ++ (0 ∷ [])) ++ p ≡ k ++ (0 ∷ (i ++ (0 ∷ p)))
joined k i p =
    append_assoc ((k ++ (0 ∷ [])) ++ i) (0 ∷ []) p ∙ append_assoc (k ++ (0 ∷ [])) i (0 ∷ p)
    ∙ append_assoc k (0 ∷ []) (i ++ (0 ∷ p))
