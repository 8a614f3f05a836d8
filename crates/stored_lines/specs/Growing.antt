-- The same by computing: trees grown from lines with depths, from the last line to the first.
use Rattle.std.specs.Prelude.{ℕ, ◌+◌, List, [], ◌∷◌, Bool, false, ◌==◌, cond, Option, Some, None}
use Rattle.stored_lines.specs.Tree.{Tree, node, forest_of}

module _ {A : Type 0} where
  -- the trees at the head that stand at a depth, and those after them
  abbrev pub fronts : ℕ → List (ℕ × Tree A) → List (Tree A)
  fronts d [] = []
  fronts d (t ∷ ts) = cond (t.0 == d) (t.1 ∷ fronts d ts) []

  abbrev pub backs : ℕ → List (ℕ × Tree A) → List (ℕ × Tree A)
  backs d [] = []
  backs d (t ∷ ts) = cond (t.0 == d) (backs d ts) (t ∷ ts)

  -- whether a tree at the head stands at a depth
  abbrev pub begins_at : ℕ → List (ℕ × Tree A) → Bool
  begins_at d [] = false
  begins_at d (t ∷ ts) = t.0 == d

  -- a line before trees: those right below it become its children
  abbrev pub graft : ℕ → A → List (ℕ × Tree A) → List (ℕ × Tree A)
  graft d a ts = (d, node a (forest_of (fronts (d + 1) ts))) ∷ backs (d + 1) ts

  -- the trees that lines with depths make
  abbrev pub grown : List (ℕ × A) → List (ℕ × Tree A)
  grown [] = []
  grown (l ∷ ls) = graft l.0 l.1 (grown ls)

  -- the one tree, where there is one and it stands at depth 0
  abbrev pub sole : List (ℕ × Tree A) → Option (Tree A)
  sole [] = None
  sole (t ∷ []) = cond (t.0 == 0) (Some t.1) None
  sole (t ∷ u ∷ ts) = None
