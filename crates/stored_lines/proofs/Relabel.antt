-- Trees with their labels changed, and changed back.
use Rattle.std.specs.Prelude.{List, [], ◌∷◌, ◌≡◌, map, refl}
use Rattle.std.proofs.Common.{ap, sym, ◌∙◌}
use Rattle.stored_lines.specs.Tree.{Tree, Forest, node, none, more, forest_of, relabel, relabel_all}

pub relabel_children : {A B : Type 0} (f : A → B) (ts : List (Tree A)) → relabel_all f (forest_of ts)
    ≡ forest_of (map (relabel f) ts)
relabel_children f [] = refl
relabel_children f (t ∷ ts) = ap (λ us. more (relabel f t) us) (relabel_children f ts)

module _ {A B : Type 0} (f : A → B) (g : B → A) (back : (a : A) → g (f a) ≡ a) where
  mutual
    pub relabel-back : (t : Tree A) → relabel g (relabel f t) ≡ t
    relabel-back (node a ts) = λ i. node (back a i) (relabel_all-back ts i)

    pub relabel_all-back : (ts : Forest A) → relabel_all g (relabel_all f ts) ≡ ts
    relabel_all-back none = refl
    relabel_all-back (more t ts) = λ i. more (relabel-back t i) (relabel_all-back ts i)

  pub map-relabel-back : (ts : List (Tree A)) → map (relabel g) (map (relabel f) ts) ≡ ts
  map-relabel-back [] = refl
  map-relabel-back (t ∷ ts) = λ i. relabel-back t i ∷ map-relabel-back ts i

-- a tree put together from its label and its children, each of them changed
pub relabelled : {A B : Type 0} (f : A → B) (t : Tree A) (a : A) (cs : List (Tree A)) (b : B) (us : List (Tree B))
    → t ≡ node a (forest_of cs) → b ≡ f a → us ≡ map (relabel f) cs → node b (forest_of us) ≡ relabel f t
relabelled f t a cs b us whole top below =
    (λ i. node (top i) (forest_of (below i))) ∙ ap (λ vs. node (f a) vs) (sym (relabel_children f cs))
    ∙ ap (relabel f) (sym whole)
