-- Words joined by a space, one after the other.
use Rattle.std.proofs.Common.{◌≡◌, ℕ, List, [], ◌∷◌, ◌++◌, ap}
use Rattle.std.specs.List.{join_with_byte}
use Rattle.std.proofs.lemmas.List.{append-nil}

-- words, each after a space
abbrev pub behind : List (List ℕ) → List ℕ
behind [] = []
behind (w ∷ ws) = 32 ∷ (w ++ behind ws)

pub join_behind : (w : List ℕ) (ws : List (List ℕ)) → w ++ behind ws ≡ join_with_byte 32 (w ∷ ws)
join_behind w [] = append-nil w
join_behind w (v ∷ ws) = ap (λ (x : List ℕ). w ++ (32 ∷ x)) (join_behind v ws)
