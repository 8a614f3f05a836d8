-- Numbers that ascend are given by what is among them.
use Rattle.std.proofs.Common.{◌≡◌, ℕ, ◌<◌, List, [], ◌∷◌, true, false, refl, sym, subst, inl, inr, arith}
use Rattle.record_shapes.specs.Lists.{EachOf, Ascends}
use Rattle.date_spans.specs.Between.{AreAll, IsAmong}
use Rattle.date_spans.proofs.Picked.{among_cases, each_known, first_among, rest_among}

-- what is among them is not below the first
not_below : (k n : ℕ) (ns : List ℕ) → EachOf (λ m. k < m) ns → IsAmong n (k ∷ ns) → n < k → ⊥
not_below k n ns above i less = elim (among_cases n k ns i) as (λ _. ⊥) [
  | inl same ↦ omega arith
  | inr more ↦ let later : k < n = each_known (λ m. k < m) ns n above more in omega arith
]

one_first : (a b : ℕ) → (a < b → ⊥) → (b < a → ⊥) → a ≡ b
one_first a b p q = omega arith

rest_same : (k : ℕ) (ns ms : List ℕ) → EachOf (λ m. k < m) ns → ((n : ℕ) → IsAmong n (k ∷ ns) → IsAmong n (k ∷ ms))
    → (n : ℕ) → IsAmong n ns → IsAmong n ms
rest_same k ns ms above h n i = elim (among_cases n k ms (h n (rest_among n k ns i))) as (λ _. IsAmong n ms) [
  | inl same ↦ let later : k < n = each_known (λ m. k < m) ns n above i in absurd (omega arith)
  | inr more ↦ more
]

one_ascending : (ns ms : List ℕ) → Ascends ns → Ascends ms → ((n : ℕ) → IsAmong n ns → IsAmong n ms)
    → ((n : ℕ) → IsAmong n ms → IsAmong n ns) → ns ≡ ms
one_ascending [] [] a b h k = refl
one_ascending (n ∷ ns) [] a b h k = let wrong : false ≡ true = h n (first_among n ns) in absurd cc
one_ascending [] (m ∷ ms) a b h k = let wrong : false ≡ true = k m (first_among m ms) in absurd cc
one_ascending (n ∷ ns) (m ∷ ms) a b h k =
    let same : n ≡ m = one_first n m (not_below m n ms b.0 (h n (first_among n ns)))
    (not_below n m ns a.0 (k m (first_among m ms))) in
    let rest : ns ≡ ms = one_ascending ns ms a.1 b.1
    (rest_same n ns ms a.0 (λ q i. subst (λ x. IsAmong q (x ∷ ms)) (sym same) (h q i)))
    (rest_same m ms ns b.0 (λ q i. subst (λ x. IsAmong q (x ∷ ns)) same (k q i))) in
    λ i. same i ∷ rest i

pub one_list : (P : ℕ → Type 0) (ns ms : List ℕ) → AreAll P ns → AreAll P ms → ns ≡ ms
one_list P ns ms a b = one_ascending ns ms a.ascending b.ascending (λ n i. (b.all n).1 ((a.all n).0 i))
    (λ n i. (a.all n).1 ((b.all n).0 i))
