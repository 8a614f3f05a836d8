-- Branches are the same exactly if their first lines are, and those below them.
use Rattle.std.specs.Prelude.{ℕ, ◌≡◌, ◌+◌, List, [], ◌∷◌, Bool, IsTrue, true, false, length, refl}
use Rattle.std.proofs.Common.{ap, sym, ◌∙◌, ◌<◌, ◌≤◌, take, get_or, arith, zero, suc}
use Rattle.std.proofs.lemmas.List.{take_all, take_more_same}
use Rattle.stored_lines.specs.Tree.{Tree, node, forest_of, label, children, list_of}
use Rattle.stored_lines.proofs.Listed.{list_back}

-- what is not so, as the answer of a test
not_so : {P : Type 0} → (P → ⊥) → (IsTrue false → P) × (P → IsTrue false)
not_so h = (λ w. absurd cc, λ p. absurd (h p))

module _ {A : Type 0} where
  at_same : (cs : List (Tree A)) (i : ℕ) (x y : Tree A) → i < length cs → x ≡ get_or cs i x → y ≡ get_or cs i y → x ≡ y
  at_same [] i x y h e f = absurd (omega arith)
  at_same (c ∷ cs) zero x y h e f = e ∙ sym f
  at_same (c ∷ cs) (suc i) x y h e f = at_same cs i x y (omega arith) e f

  pub more_same : (cs ds : List (Tree A)) (i : ℕ) (x y : Tree A) → i < length cs → i < length ds → x ≡ get_or cs i x
      → y ≡ get_or ds i y → x ≡ y → take i cs ≡ take i ds → take (i + 1) cs ≡ take (i + 1) ds
  more_same cs ds i x y h k e f same so_far = take_more_same cs ds i x h k so_far
      (sym e ∙ same ∙ f ∙ ap (λ z. get_or ds i z) (sym same))

  module _ (t u : Tree A) (a b : A) (cs ds : List (Tree A)) (h : node a (forest_of cs) ≡ t)
      (k : node b (forest_of ds) ≡ u) where
    children_same : t ≡ u → cs ≡ ds
    children_same e = sym (list_back cs) ∙ ap (λ x. list_of (children x)) (h ∙ e ∙ sym k) ∙ list_back ds

    pub other_len : (length cs ≡ length ds → ⊥) → (IsTrue false → t ≡ u) × (t ≡ u → IsTrue false)
    other_len other = not_so (λ e. other (ap length (children_same e)))

    pub other_child : (i : ℕ) (x y : Tree A) (r : Bool) → i < length cs → x ≡ get_or cs i x → y ≡ get_or ds i y
        → r ≡ false → (x ≡ y → IsTrue r) → (IsTrue false → t ≡ u) × (t ≡ u → IsTrue false)
    other_child i x y r less e f is gives = not_so (λ same.
        let one : x ≡ y = at_same cs i x y less e (f ∙ ap (λ zs. get_or zs i y) (sym (children_same same))) in
        let found : r ≡ true = gives one in
        absurd cc)

    pub same_trees : (i : ℕ) → length cs ≤ i → length ds ≤ i → label t ≡ label u → take i cs ≡ take i ds
        → (IsTrue true → t ≡ u) × (t ≡ u → IsTrue true)
    same_trees i less few top so_far =
        let all : cs ≡ ds = sym (take_all i cs less) ∙ so_far ∙ take_all i ds few in
        let first : a ≡ b = ap label h ∙ top ∙ sym (ap label k) in
        (λ w. sym h ∙ (λ j. node (first j) (forest_of (all j))) ∙ k, λ e. refl)
