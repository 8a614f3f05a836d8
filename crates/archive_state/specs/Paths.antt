-- The paths of the places of an archive: rules of our own.
use Rattle.std.specs.Prelude.{ℕ, ◌≡◌, ◌<◌, List, [], ◌∷◌, Option, Some, None, MatchOption}
use Rattle.std.specs.FinMap.{get}
use Rattle.record_kinds.specs.Model as model
use Rattle.record_kinds.specs.declared.record.Record.TheVariants as kind
use Rattle.record_shapes.specs.Paths.{joined}
use Rattle.archive_state.specs.Content.{Records}

abbrev pub IsPlaceAt : Records → ℕ → model.Place → Type 0
IsPlaceAt m n p = get m n ≡ Some (kind.Place p)

-- these are the names of a place and of those that it is within, the innermost first; each place has a smaller number
-- than the one before it
abbrev pub Climbs : Records → ℕ → List (List ℕ) → Type 0
Climbs m n [] = ⊥
Climbs m n (name ∷ []) = (p : model.Place) × IsPlaceAt m n p × (p.name ≡ name) × (p.parent ≡ None)
Climbs m n (name ∷ (above ∷ names)) = (p : model.Place) × IsPlaceAt m n p × (p.name ≡ name)
    × ((q : ℕ) × (p.parent ≡ Some q) × (q < n) × Climbs m q (above ∷ names))

-- the path of a place: its name, and where it has a parent, then comma, space and the parent's path
abbrev pub HasPath : Records → ℕ → List ℕ → Type 0
HasPath m n path = (names : List (List ℕ)) × Climbs m n names × (joined names ≡ path)

-- the lowest of the numbers of which P holds; none where it holds of none
abbrev pub IsLowest : (ℕ → Type 0) → Option ℕ → Type 0
IsLowest P found = MatchOption found ((n : ℕ) → ¬ (P n)) (λ n. P n × ((k : ℕ) → k < n → ¬ (P k)))
