-- Trees of labels, with any number of children, and the lines that they are: each label in order, with its depth.
use Rattle.std.specs.Prelude.{ℕ, ◌+◌, ◌≡◌, ◌≤◌, List, [], ◌∷◌, ◌++◌, refl}
use Rattle.std.proofs.Common.{ap, sym, subst, arith}
use base.Stored.{Coded, Gv, gnil, gnum, gcons}
use denote.Param.Weighed.{most}

mutual
  pub data Tree (A : Type 0) : Type 0 where
    node : A → Forest A → Tree A

  -- the children of a tree, or trees side by side
  pub data Forest (A : Type 0) : Type 0 where
    none : Forest A
    more : Tree A → Forest A → Forest A

module _ {A : Type 0} where
  abbrev pub forest_of : List (Tree A) → Forest A
  forest_of [] = none
  forest_of (t ∷ ts) = more t (forest_of ts)

  -- the trees side by side, as a list
  abbrev pub list_of : Forest A → List (Tree A)
  list_of none = []
  list_of (more t f) = t ∷ list_of f

  abbrev pub label : Tree A → A
  label (node a f) = a

  abbrev pub children : Tree A → Forest A
  children (node a f) = f

  abbrev mutual
    -- the labels in order, each with its depth; those of the children stand one deeper
    pub flat : ℕ → Tree A → List (ℕ × A)
    flat d (node a f) = (d, a) ∷ flat_all (d + 1) f

    pub flat_all : ℕ → Forest A → List (ℕ × A)
    flat_all d none = []
    flat_all d (more t f) = flat d t ++ flat_all d f

  abbrev mutual
    -- how many labels
    pub tree_size : Tree A → ℕ
    tree_size (node a f) = forest_size f + 1

    pub forest_size : Forest A → ℕ
    forest_size none = 0
    forest_size (more t f) = tree_size t + forest_size f

  pub most_le-forest_size : (ts : List (Tree A)) → most (λ t. tree_size t + 1) ts ≤ forest_size (forest_of ts) + 1
  most_le-forest_size [] = omega arith
  most_le-forest_size (t ∷ ts) = omega (arith, most_le-forest_size ts)

module _ {A B : Type 0} (f : A → B) where
  abbrev mutual
    -- the same tree with each label changed
    pub relabel : Tree A → Tree B
    relabel (node a ts) = node (f a) (relabel_all ts)

    pub relabel_all : Forest A → Forest B
    relabel_all none = none
    relabel_all (more t ts) = more (relabel t) (relabel_all ts)

-- The code of a tree, by which its values are distinguished.
abbrev head : Gv → Gv
head gnil = gnil
head (gnum n) = gnil
head (gcons a b) = a

abbrev tail : Gv → Gv
tail gnil = gnil
tail (gnum n) = gnil
tail (gcons a b) = b

abbrev IsCons : Gv → Type 0
IsCons gnil = ⊥
IsCons (gnum n) = ⊥
IsCons (gcons a b) = Unit {0}

mutual
  pub code_tree : {A : Type 0} → (A → Gv) → Tree A → Gv
  code_tree c (node a f) = gcons (c a) (code_forest c f)

  pub code_forest : {A : Type 0} → (A → Gv) → Forest A → Gv
  code_forest c none = gnil
  code_forest c (more t f) = gcons (code_tree c t) (code_forest c f)

module _ {A : Type 0} (c : Coded A) where
  mutual
    unfolding code_tree code_forest

    pub inj_tree : (t u : Tree A) → code_tree c.code t ≡ code_tree c.code u → t ≡ u
    inj_tree (node a f) (node b g) p = λ i. node (c.inj a b (ap head p) i) (inj_forest f g (ap tail p) i)

    pub inj_forest : (f g : Forest A) → code_forest c.code f ≡ code_forest c.code g → f ≡ g
    inj_forest none none p = refl
    inj_forest (more t f) (more u g) p = λ i. more (inj_tree t u (ap head p) i) (inj_forest f g (ap tail p) i)
    inj_forest none (more u g) p = absurd (subst IsCons (sym p) tt)
    inj_forest (more t f) none p = absurd (subst IsCons p tt)

  abbrev pub coded_tree : Coded (Tree A)
  coded_tree = record { code = code_tree c.code; inj = inj_tree }
