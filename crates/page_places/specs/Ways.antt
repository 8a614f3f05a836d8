-- The paths of a place and of those above it, of a path that is normal: names, the smallest first, with comma and space
-- between (PLAC of GEDCOM 5.5.1).
use Rattle.std.specs.Prelude.{ℕ, ◌==◌, Bool, true, List, [], ◌∷◌, if◌then◌else◌}

-- without a space in front
abbrev pub past_space : List ℕ → List ℕ
past_space [] = []
past_space (b ∷ bs) = if b == 32 then bs else b ∷ bs

-- the paths of the places above, the nearest first: what is after each comma
abbrev pub above : List ℕ → List (List ℕ)
above [] = []
above (b ∷ bs) = if b == 44 then past_space bs ∷ above bs else above bs

-- the name of the place itself: what is before the first comma
abbrev pub name_of : List ℕ → List ℕ
name_of [] = []
name_of (b ∷ bs) = if b == 44 then [] else b ∷ name_of bs

-- the place itself has no name: nothing is before the first comma
abbrev pub is_unnamed : List ℕ → Bool
is_unnamed [] = true
is_unnamed (b ∷ bs) = b == 44
