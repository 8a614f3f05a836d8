-- A list of trees as a forest, and back.
use Rattle.std.proofs.Common.{refl, List, ap, ◌≡◌, ◌∷◌, []}
use Rattle.stored_lines.specs.Tree.{list_of, Tree, forest_of, more, Forest, none}

pub list_back : {A : Type 0} (ts : List (Tree A)) → list_of (forest_of ts) ≡ ts
list_back [] = refl
list_back (t ∷ ts) = ap (λ us. t ∷ us) (list_back ts)

pub forest_list : {A : Type 0} (f : Forest A) → forest_of (list_of f) ≡ f
forest_list none = refl
forest_list (more t f) = ap (more t) (forest_list f)
