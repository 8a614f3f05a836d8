-- Numbers added to sets.
use Rattle.std.proofs.Common.{◌≡◌, ◌⊎◌, ◌↔◌, ℕ, Bool, true, false, cond, refl, sym, ap, ◌∙◌, inl, inr}
use Rattle.std.specs.Ordering.{nat_cmp, eq_by_cmp}
use Rattle.std.specs.BTreeMap.{is_at}
use Rattle.std.specs.BTreeSet as set
use Rattle.std.specs.BTreeSet.{BTreeSet}
use Rattle.archive_state.proofs.Putting.{one_number}
use Rattle.masking.specs.Sets.{IsIn, Gets}
use Rattle.list_laws.proofs.Numbers.{itself}

-- ---- one number more
module _ (before after : BTreeSet ℕ) (k : ℕ)
    (h : (q : ℕ) → set.contains nat_cmp after q ≡ cond (is_at (nat_cmp k) q) true (set.contains nat_cmp before q)) where
  one_by : (q : ℕ) (b : Bool) → is_at (nat_cmp k) q ≡ b → IsIn after q ↔ (IsIn before q ⊎ (k ≡ q))
  one_by q true e = (
    λ i. inr (one_number k q e),
    λ o. h q ∙ ap (λ b. cond b true (set.contains nat_cmp before q)) e,
  )
  one_by q false e =
      let same : set.contains nat_cmp after q ≡ set.contains nat_cmp before q = h q
      ∙ ap (λ b. cond b true (set.contains nat_cmp before q)) e in (
        λ i. inl (sym same ∙ i),
        λ o. elim o as (λ _. IsIn after q) [
          | inl i ↦ same ∙ i
          | inr is ↦
              let both : true ≡ false = sym (itself k) ∙ ap (λ x. eq_by_cmp nat_cmp k x) is ∙ e in absurd cc
        ],
      )

  pub gets_one : Gets before after (λ n. k ≡ n)
  gets_one = λ q. one_by q (is_at (nat_cmp k) q) refl
