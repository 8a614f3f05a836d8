-- What is found by some word.
use Rattle.std.proofs.Common.{◌≡◌, ℕ, List, [], ◌∷◌, refl}
use Rattle.name_index.specs.Found.{found, found_by}

pub by_some : (words : List (List ℕ)) (es : List (ℕ × List (List ℕ))) → (words ≡ [] → ⊥)
    → found_by words es ≡ found words es
by_some [] es some = absurd (some refl)
by_some (word ∷ words) es some = refl
