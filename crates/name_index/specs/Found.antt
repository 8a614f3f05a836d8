-- Which records are found by their names.
use Rattle.std.specs.Prelude.{ℕ, Bool, List, [], ◌∷◌, map}
use Rattle.std.specs.List.{filter, list_any}
use Rattle.searching.specs.Words.{all_occur}

-- all the words occur in one of the names of the record
abbrev pub is_named : List (List ℕ) → ℕ × List (List ℕ) → Bool
is_named words e = list_any (all_occur words) e.1

-- the numbers of those that have such a name, in their order
abbrev pub found_by : List (List ℕ) → List (ℕ × List (List ℕ)) → List ℕ
found_by words es = map (λ (e : ℕ × List (List ℕ)). e.0) (filter (is_named words) es)

-- these; without a word none
abbrev pub found : List (List ℕ) → List (ℕ × List (List ℕ)) → List ℕ
found [] es = []
found (word ∷ words) es = found_by (word ∷ words) es
