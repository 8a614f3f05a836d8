-- Maps of an archive with one more, or another, at a number.
use Rattle.std.proofs.Common.{◌≡◌, ◌⊎◌, ℕ, Bool, true, false, refl, sym, ap, ◌∙◌, cond, inl, inr}
use Rattle.std.specs.Prelude.{Option, Some}
use Rattle.std.specs.FinMap.{FinMap, get, insert, get-insert, nat_cmp-IsAntisymmetric}
use Rattle.std.specs.Ordering.{nat_cmp, eq_by_cmp}
use Rattle.std.specs.Cmp.{nat_cmp_total, Equal-is}
use Rattle.list_laws.proofs.Numbers.{itself, other_key}

pub one_number : (a b : ℕ) → eq_by_cmp nat_cmp a b ≡ true → a ≡ b
one_number a b e = nat_cmp-IsAntisymmetric a b ((Equal-is (nat_cmp a b)).0 e)

module _ {X : Type 0} where
  found : (m : FinMap nat_cmp X) (k : ℕ) (v : X) (n : ℕ) (b : Bool) → eq_by_cmp nat_cmp n k ≡ b
      → get (insert m k v) n ≡ cond b (Some v) (get m n)
  found m k v n b e = get-insert nat_cmp_total m k v n ∙ ap (λ x. cond x (Some v) (get m n)) e

  -- what stands at a number is what was put there, or what stood there
  pub put_cases : (m : FinMap nat_cmp X) (k : ℕ) (v : X) (n : ℕ) (o : Option X) → get (insert m k v) n ≡ o
      → ((n ≡ k) × (Some v ≡ o)) ⊎ ((n ≡ k → ⊥) × (get m n ≡ o))
  put_cases m k v n o e =
      elim (eq_by_cmp nat_cmp n k) as (λ b. eq_by_cmp nat_cmp n k ≡ b → ((n ≡ k) × (Some v ≡ o))
      ⊎ ((n ≡ k → ⊥) × (get m n ≡ o))) [
        | true ↦ λ q. inl (one_number n k q, sym (found m k v n true q) ∙ e)
        | false ↦ λ q. inr (other_key n k q, sym (found m k v n false q) ∙ e)
      ] refl

  pub put_here : (m : FinMap nat_cmp X) (n : ℕ) (v : X) → get (insert m n v) n ≡ Some v
  put_here m n v = found m n v n true (itself n)

  pub put_elsewhere : (m : FinMap nat_cmp X) (k : ℕ) (v : X) (n : ℕ) → (n ≡ k → ⊥) → get (insert m k v) n ≡ get m n
  put_elsewhere m k v n other =
      elim (eq_by_cmp nat_cmp n k) as (λ b. eq_by_cmp nat_cmp n k ≡ b → get (insert m k v) n ≡ get m n) [
        | true ↦ λ q. absurd (other (one_number n k q))
        | false ↦ λ q. found m k v n false q
      ] refl
