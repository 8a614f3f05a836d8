-- The path of a place from its names, the place first and what it stands in after it.
use Rattle.std.proofs.Common.{List, ℕ, ◌++◌, refl, ◌≡◌, [], ap, ◌∙◌, append_assoc, sym}
use Rattle.std.specs.Prelude.{Option, option_map, None, Some, codes}
use Rattle.record_shapes.specs.Fields.{path_below}

pub so_far : List ℕ → Option (List ℕ) → Option (List ℕ)
so_far front rest = option_map (λ path. front ++ path) rest

bare : (o : Option (List ℕ)) → so_far [] o ≡ o
unfolding so_far
bare None = refl
bare (Some path) = refl

pub starts : (front : List ℕ) (o : Option (List ℕ)) → front ≡ [] → so_far front o ≡ o
starts front o e = ap (λ f. so_far f o) e ∙ bare o

pub goes_on : (front name : List ℕ) (o : Option (List ℕ)) → so_far front (option_map (path_below name) o)
    ≡ so_far ((front ++ name) ++ codes ", ") o
unfolding so_far
goes_on front name None = refl
goes_on front name (Some path) =
    ap Some (sym (append_assoc front name (codes ", " ++ path)) ∙ sym (append_assoc (front ++ name) (codes ", ") path))

pub ends : (front : List ℕ) (o : Option (List ℕ)) (name : List ℕ) → o ≡ Some name
    → so_far front o ≡ Some (front ++ name)
unfolding so_far
ends front o name e = ap (option_map (λ path. front ++ path)) e

pub lost : (front : List ℕ) (o : Option (List ℕ)) → o ≡ None → so_far front o ≡ None
unfolding so_far
lost front o e = ap (option_map (λ path. front ++ path)) e
