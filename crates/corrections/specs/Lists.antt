-- An element of a list changed.
use Rattle.std.specs.Prelude.{ℕ, zero, suc, List, [], ◌∷◌}

-- the element of a place, from 0; where it is none, no other
abbrev pub changed_at : {A : Type 0} → ℕ → (A → A) → List A → List A
changed_at i f [] = []
changed_at zero f (x ∷ xs) = f x ∷ xs
changed_at (suc i) f (x ∷ xs) = x ∷ changed_at i f xs
