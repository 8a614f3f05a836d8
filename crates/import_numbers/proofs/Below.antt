-- A line put together again from the lines below it, each of them changed.
use Rattle.std.proofs.Common.{◌≡◌, List, [], ◌∷◌, ◌++◌, refl, sym, ap, ◌∙◌, map}
use Rattle.std.proofs.lemmas.List.{append-nil}
use Rattle.stored_lines.specs.Tree.{Tree, children, forest_of, list_of, node, relabel}

module _ {A : Type 0} where
  list_back : (ts : List (Tree A)) → list_of (forest_of ts) ≡ ts
  list_back [] = refl
  list_back (t ∷ ts) = ap (λ us. t ∷ us) (list_back ts)

  below_is : (t : Tree A) (a : A) (ts : List (Tree A)) → t ≡ node a (forest_of ts) → list_of (children t) ≡ ts
  below_is t a ts e = ap (λ (u : Tree A). list_of (children u)) e ∙ list_back ts

  -- none is changed yet
  pub begun : (f : A → A) (t : Tree A) (a : A) (ts made left : List (Tree A)) → t ≡ node a (forest_of ts) → made ≡ []
      → left ≡ ts → made ++ map (relabel f) left ≡ map (relabel f) (list_of (children t))
  begun f t a ts made left e none all = ap (λ us. us ++ map (relabel f) left) none
      ∙ ap (map (relabel f)) (all ∙ sym (below_is t a ts e))

  -- all are changed
  pub ended : (f : A → A) (t : Tree A) (a : A) (ts made left : List (Tree A)) → t ≡ node a (forest_of ts) → left ≡ []
      → made ++ map (relabel f) left ≡ map (relabel f) (list_of (children t)) → made ≡ map (relabel f) ts
  ended f t a ts made left e none all = sym (append-nil made) ∙ ap (λ us. made ++ map (relabel f) us) (sym none) ∙ all
      ∙ ap (map (relabel f)) (below_is t a ts e)
