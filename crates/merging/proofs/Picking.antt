-- Entries that rise, filtered, and what is found among them.
use Rattle.std.proofs.Common.{◌≡◌, ℕ, ◌<◌, List, [], ◌∷◌, Bool, true, false, cond, refl, sym, ap, ◌∙◌, subst, arith}
use Rattle.std.specs.Prelude.{Option, Some, None, map, T}
use Rattle.std.specs.List.{filter}
use Rattle.std.specs.FinMap.{FinMap, find, is_sorted, entries, entries_sorted}
use Rattle.std.specs.FinMap.Entries.{below_all}
use Rattle.std.specs.Ordering.{nat_cmp, eq_by_cmp, is_lt}
use Rattle.std.specs.Cmp.{ranked}
use Rattle.std.specs.declared.cmp.Ordering.TheVariants.{Less}
use Rattle.record_shapes.specs.Lists.{EachOf, Ascends}
use Rattle.archive_state.proofs.Putting.{one_number}
use Rattle.archive_state.proofs.Rising.{less_is}
use Rattle.list_laws.proofs.Booleans.{first_holds, rest_holds}

module _ {X : Type 0} where
  abbrev pub key : ℕ × X → ℕ
  key e = e.0

  below_keys : (k : ℕ) (es : List (ℕ × X)) → T (below_all nat_cmp k es) → EachOf (λ j. k < j) (map key es)
  below_keys k [] h = tt
  below_keys k (e ∷ es) h = (
    ranked k e.0 Less (sym (less_is (nat_cmp k e.0) (first_holds (is_lt (nat_cmp k e.0)) (below_all nat_cmp k es) h))),
    below_keys k es (rest_holds (is_lt (nat_cmp k e.0)) (below_all nat_cmp k es) h),
  )

  rising_keys : (es : List (ℕ × X)) → T (is_sorted nat_cmp es) → Ascends (map key es)
  rising_keys [] h = tt
  rising_keys (e ∷ es) h = (
    below_keys e.0 es (first_holds (below_all nat_cmp e.0 es) (is_sorted nat_cmp es) h),
    rising_keys es (rest_holds (below_all nat_cmp e.0 es) (is_sorted nat_cmp es) h),
  )

  -- the entries of a map rise
  pub entries_rise : (m : FinMap nat_cmp X) → Ascends (map key (entries m))
  entries_rise m = rising_keys (entries m) (entries_sorted m)

  each_filtered : (Q : ℕ → Type 0) (test : ℕ × X → Bool) (es : List (ℕ × X)) → EachOf Q (map key es)
      → EachOf Q (map key (filter test es))
  each_filtered Q test [] h = tt
  each_filtered Q test (e ∷ es) h =
      elim (test e) as (λ b. EachOf Q (map key (cond b (e ∷ filter test es) (filter test es)))) [
        | true ↦ (h.0, each_filtered Q test es h.1)
        | false ↦ each_filtered Q test es h.1
      ]

  pub filter_rises : (test : ℕ × X → Bool) (es : List (ℕ × X)) → Ascends (map key es)
      → Ascends (map key (filter test es))
  filter_rises test [] h = tt
  filter_rises test (e ∷ es) h =
      elim (test e) as (λ b. Ascends (map key (cond b (e ∷ filter test es) (filter test es)))) [
        | true ↦ (each_filtered (λ j. e.0 < j) test es h.0, filter_rises test es h.1)
        | false ↦ filter_rises test es h.1
      ]

  none_below : (n : ℕ) (es : List (ℕ × X)) → EachOf (λ j. n < j) (map key es) → find nat_cmp n es ≡ None
  none_below n [] h = refl
  none_below n (e ∷ es) h = elim (eq_by_cmp nat_cmp n e.0) as (λ b. eq_by_cmp nat_cmp n e.0 ≡ b
      → cond b (Some e.1) (find nat_cmp n es) ≡ None) [
        | true ↦ λ q. let same : n ≡ e.0 = one_number n e.0 q in let less : n < e.0 = h.0 in absurd (omega arith)
        | false ↦ λ q. none_below n es h.1
      ] refl

module _ {X Y : Type 0} (h : ℕ × X → Option Y) where
  -- what h makes of the first entry of a number
  abbrev pub pick : ℕ → List (ℕ × X) → Option Y
  pick n [] = None
  pick n (e ∷ es) = cond (eq_by_cmp nat_cmp n e.0) (h e) (pick n es)

  module _ (test : ℕ × X → Bool) (n : ℕ) where
    pub pick_none : (es : List (ℕ × X)) → find nat_cmp n es ≡ None → pick n (filter test es) ≡ None
    pick_none [] q = refl
    pick_none (e ∷ es) q = elim (eq_by_cmp nat_cmp n e.0) as (λ b. eq_by_cmp nat_cmp n e.0 ≡ b
        → cond b (Some e.1) (find nat_cmp n es) ≡ None
        → pick n (cond (test e) (e ∷ filter test es) (filter test es)) ≡ None) [
          | true ↦ λ x y. absurd cc
          | false ↦ λ x y. elim (test e) as (λ b. pick n (cond b (e ∷ filter test es) (filter test es)) ≡ None) [
            | true ↦ ap (λ b. cond b (h e) (pick n (filter test es))) x ∙ pick_none es y
            | false ↦ pick_none es y
          ]
        ] refl q

    pub pick_passed : (r : X) (es : List (ℕ × X)) → find nat_cmp n es ≡ Some r → test (n, r) ≡ true
        → pick n (filter test es) ≡ h (n, r)
    pick_passed r [] q t = absurd cc
    pick_passed r (e ∷ es) q t = elim (eq_by_cmp nat_cmp n e.0) as (λ b. eq_by_cmp nat_cmp n e.0 ≡ b
        → cond b (Some e.1) (find nat_cmp n es) ≡ Some r
        → pick n (cond (test e) (e ∷ filter test es) (filter test es)) ≡ h (n, r)) [
          | true ↦ λ x y.
              let number : n ≡ e.0 = one_number n e.0 x in
              let value : r ≡ e.1 = cc in
              let same : ◌≡◌ {A = ℕ × X} (n, r) e = λ i. (number i, value i) in
              ap (λ b. pick n (cond b (e ∷ filter test es) (filter test es))) (sym (ap test same) ∙ t)
              ∙ ap (λ b. cond b (h e) (pick n (filter test es))) x ∙ ap h (sym same)
          | false ↦ λ x y. elim (test e) as (λ b. pick n (cond b (e ∷ filter test es) (filter test es)) ≡ h (n, r)) [
            | true ↦ ap (λ b. cond b (h e) (pick n (filter test es))) x ∙ pick_passed r es y t
            | false ↦ pick_passed r es y t
          ]
        ] refl q

    pub pick_failed : (r : X) (es : List (ℕ × X)) → Ascends (map key es) → find nat_cmp n es ≡ Some r
        → test (n, r) ≡ false → pick n (filter test es) ≡ None
    pick_failed r [] a q t = refl
    pick_failed r (e ∷ es) a q t = elim (eq_by_cmp nat_cmp n e.0) as (λ b. eq_by_cmp nat_cmp n e.0 ≡ b
        → cond b (Some e.1) (find nat_cmp n es) ≡ Some r
        → pick n (cond (test e) (e ∷ filter test es) (filter test es)) ≡ None) [
          | true ↦ λ x y.
              let number : n ≡ e.0 = one_number n e.0 x in
              let value : r ≡ e.1 = cc in
              let same : ◌≡◌ {A = ℕ × X} (n, r) e = λ i. (number i, value i) in
              ap (λ b. pick n (cond b (e ∷ filter test es) (filter test es))) (sym (ap test same) ∙ t)
              ∙ pick_none es (none_below n es (subst (λ k. EachOf (λ j. k < j) (map key es)) (sym number) a.0))
          | false ↦ λ x y. elim (test e) as (λ b. pick n (cond b (e ∷ filter test es) (filter test es)) ≡ None) [
            | true ↦ ap (λ b. cond b (h e) (pick n (filter test es))) x ∙ pick_failed r es a.1 y t
            | false ↦ pick_failed r es a.1 y t
          ]
        ] refl q
