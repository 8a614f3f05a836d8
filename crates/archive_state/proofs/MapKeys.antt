-- The keys of a map under numbers: they ascend, and each that has something is one of them.
use Rattle.std.proofs.Common.{
  ◌≡◌,
  ◌<◌,
  ◌==◌,
  ◌||◌,
  ℕ,
  List,
  [],
  ◌∷◌,
  true,
  false,
  refl,
  sym,
  ap,
  subst,
  ◌∙◌,
  cond,
  eqb-true,
  eq-eqb,
}
use Rattle.std.specs.Prelude.{Some, None, T, map}
use Rattle.std.specs.List.{list_any}
use Rattle.std.specs.Ordering.{nat_cmp, is_lt, is_eq}
use Rattle.std.specs.declared.cmp.Ordering.TheVariants.{Less, Equal, Greater}
use Rattle.std.specs.Cmp.{ranked}
use Rattle.std.specs.FinMap.Entries.{below_all}
use Rattle.std.specs.FinMap.{FinMap, find, is_sorted, get, keys, entries, entries_sorted, get-entries}
use Rattle.record_shapes.specs.Lists.{Ascends, EachOf}
use Rattle.archive_state.proofs.Rising.{less_is}
use Rattle.list_laws.proofs.Booleans.{or_right, first_holds, rest_holds}

-- what holds of each of a list holds of one that is among them
pub each_among : (P : ℕ → Type 0) (ns : List ℕ) (n : ℕ) → EachOf P ns → list_any (λ k. k == n) ns ≡ true → P n
each_among P [] n h e = absurd (let no : false ≡ true = e in cc)
each_among P (k ∷ ns) n h e =
    elim (k == n) as (λ b. (k == n) ≡ b → (b || list_any (λ j. j == n) ns) ≡ true → P n) [
      | true ↦ λ is f. subst P (eqb-true k n is) h.0
      | false ↦ λ is f. each_among P ns n h.1 f
    ] refl e

module _ {X : Type 0} where
  below_each : (k : ℕ) (es : List (ℕ × X)) → T (below_all nat_cmp k es) → EachOf (λ n. k < n) (map (λ e. e.0) es)
  below_each k [] h = tt
  below_each k (e ∷ es) h = (
    ranked k e.0 Less (sym (less_is (nat_cmp k e.0) (first_holds (is_lt (nat_cmp k e.0)) (below_all nat_cmp k es) h))),
    below_each k es (rest_holds (is_lt (nat_cmp k e.0)) (below_all nat_cmp k es) h),
  )

  ascend_of : (es : List (ℕ × X)) → T (is_sorted nat_cmp es) → Ascends (map (λ e. e.0) es)
  ascend_of [] h = tt
  ascend_of (e ∷ es) h = (
    below_each e.0 es (first_holds (below_all nat_cmp e.0 es) (is_sorted nat_cmp es) h),
    ascend_of es (rest_holds (below_all nat_cmp e.0 es) (is_sorted nat_cmp es) h),
  )

  found_among : (es : List (ℕ × X)) (n : ℕ) (x : X) → find nat_cmp n es ≡ Some x
      → list_any (λ k. k == n) (map (λ e. e.0) es) ≡ true
  found_among [] n x e = absurd (let no : None ≡ Some x = e in cc)
  found_among (e ∷ es) n x at =
      elim (nat_cmp n e.0) as (λ o. nat_cmp n e.0 ≡ o → cond (is_eq o) (Some e.1) (find nat_cmp n es) ≡ Some x
      → ((e.0 == n) || list_any (λ k. k == n) (map (λ e. e.0) es)) ≡ true) [
        | Less ↦ λ is f. or_right (e.0 == n) _ (found_among es n x f)
        | Equal ↦ λ is f.
            ap (λ b. b || list_any (λ k. k == n) (map (λ e. e.0) es)) (eq-eqb e.0 n (sym (ranked n e.0 Equal (sym is))))
        | Greater ↦ λ is f. or_right (e.0 == n) _ (found_among es n x f)
      ] refl at

  pub keys_ascend : (m : FinMap nat_cmp X) → Ascends (keys m)
  keys_ascend m = ascend_of (entries m) (entries_sorted m)

  pub among_keys : (m : FinMap nat_cmp X) (n : ℕ) (x : X) → get m n ≡ Some x → list_any (λ k. k == n) (keys m) ≡ true
  among_keys m n x at = found_among (entries m) n x (sym (get-entries m n) ∙ at)
