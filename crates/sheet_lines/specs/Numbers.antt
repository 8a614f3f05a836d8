-- The numbers that an index of surnames has under a key.
use Rattle.std.specs.Prelude.{ℕ, ◌==◌, Bool, false, if◌then◌else◌, List, [], ◌∷◌, ◌++◌}
use Rattle.std.specs.Option.{option_map, unwrap_or}
use Rattle.std.specs.BTreeMap.{BTreeMap, get_by_text}
use Rattle.std.specs.declared.string.String.{String}
use Rattle.std.specs.Global.{Global, Vec}

-- the numbers under a key; none where it is not there
abbrev pub under : BTreeMap (String Global) (Vec ℕ) → List ℕ → List ℕ
under numbers key = unwrap_or (option_map (λ (v : Vec ℕ). v.items) (get_by_text numbers key)) []

-- the number stands at the end of the list
abbrev pub stands_last : ℕ → List ℕ → Bool
stands_last n [] = false
stands_last n (k ∷ []) = k == n
stands_last n (j ∷ k ∷ ks) = stands_last n (k ∷ ks)

-- the list with the number at its end, where it stood already or is put
abbrev pub with_last : ℕ → List ℕ → List ℕ
with_last n ks = if stands_last n ks then ks else ks ++ n ∷ []
