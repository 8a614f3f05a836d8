-- Numbers that rise.
use Rattle.std.specs.Prelude.{ℕ, nat_lt, ◌&&◌, Bool, true, List, [], ◌∷◌}

-- each is greater than the one before it, the first than a given one
abbrev pub rises_from : ℕ → List ℕ → Bool
rises_from last [] = true
rises_from last (n ∷ ns) = nat_lt last n && rises_from n ns
