-- The changed numbers, from those of the records that name the one that is gone.
use Rattle.std.proofs.Common.{◌≡◌, ℕ, ◌<◌, List, [], ◌∷◌, Bool, true, false, cond, refl, sym, ap, ◌∙◌, subst, arith}
use Rattle.std.specs.Prelude.{Some, map, not, nat_lt, ◌&&◌, ◌||◌, ◌==◌, if◌then◌else◌}
use Rattle.std.specs.List.{filter}
use Rattle.std.specs.FinMap.{get, find, entries, get-entries}
use Rattle.std.specs.Ordering.{nat_cmp, eq_by_cmp}
use Rattle.record_kinds.specs.declared.record.Record.{Record}
use Rattle.archive_state.specs.Links.{links, is_among}
use Rattle.archive_state.specs.Content.{Content, Records}
use Rattle.archive_state.specs.Referrers.{referrers}
use Rattle.record_shapes.specs.Lists.{EachOf, Ascends}
use Rattle.archive_state.specs.declared.slip.Change.{Change}
use Rattle.merging.specs.Merges.{with_number, is_changed, adds_nothing, merge_changes, change_at, changed_numbers}
use Rattle.std.proofs.lemmas.Bool.Decides.{nat_tests}
use Rattle.std.proofs.lemmas.Bool.{lt-ltb}
use Rattle.merging.proofs.Picking.{key, entries_rise}
use Rattle.archive_state.proofs.Putting.{one_number}
use Rattle.merging.proofs.Once.{number_other}
use Rattle.record_shapes.proofs.Each.{each_all}
use Rattle.list_laws.proofs.Numbers.{same_self}

not_less : (a b : ℕ) → b < a → nat_lt a b ≡ false
not_less a b h = grind (arith, nat_tests)

module _ {X : Type 0} where
  -- two tests that agree on each entry find the same
  pub same_found : (p q : ℕ × X → Bool) (es : List (ℕ × X)) → EachOf (λ e. p e ≡ q e) es → filter p es ≡ filter q es
  same_found p q [] h = refl
  same_found p q (e ∷ es) h = ap (λ b. cond b (e ∷ filter p es) (filter p es)) h.0 ∙ ap (λ l. cond (q e) (e ∷ l) l)
      (same_found p q es h.1)

  below_test : (n : ℕ) (p : ℕ × X → Bool) (es : List (ℕ × X)) → EachOf (λ k. n < k) (map key es)
      → EachOf (λ (e : ℕ × X). ((e.0 == n) || p e) ≡ p e) es
  below_test n p [] h = tt
  below_test n p (e ∷ es) h = (
    ap (λ b. b || p e) (number_other e.0 n (λ same. let less : n < e.0 = h.0 in absurd (omega arith))),
    below_test n p es h.1,
  )

  below_first : (n : ℕ) (p : ℕ × X → Bool) (es : List (ℕ × X)) → EachOf (λ k. n < k) (map key es)
      → with_number n (map key (filter p es)) ≡ n ∷ map key (filter p es)
  below_first n p [] h = refl
  below_first n p (e ∷ es) h =
      elim (p e) as (λ b. with_number n (map key (cond b (e ∷ filter p es) (filter p es))) ≡ n ∷ map key
      (cond b (e ∷ filter p es) (filter p es))) [
        | true ↦
            let less : n < e.0 = h.0 in
            let other : (n == e.0) ≡ false = number_other n e.0 (λ same. absurd (omega arith)) in
            let lower : nat_lt n e.0 ≡ true = lt-ltb n e.0 less in
            ap (λ b. if b then e.0 ∷ map key (filter p es)
            else (if nat_lt n e.0 then n ∷ (e.0 ∷ map key (filter p es)) else e.0 ∷ with_number n
            (map key (filter p es)))) other
            ∙ ap (λ b. if b then n ∷ (e.0 ∷ map key (filter p es)) else e.0 ∷ with_number n (map key (filter p es)))
            lower
        | false ↦ below_first n p es h.1
      ]

  -- what is found after the first is above it
  found_above : (n : ℕ) (r : X) (e : ℕ × X) (es : List (ℕ × X)) → EachOf (λ k. e.0 < k) (map key es)
      → find nat_cmp n es ≡ Some r → e.0 < n
  found_above n r e [] a h = absurd cc
  found_above n r e (d ∷ es) a h = elim (eq_by_cmp nat_cmp n d.0) as (λ b. eq_by_cmp nat_cmp n d.0 ≡ b
      → cond b (Some d.1) (find nat_cmp n es) ≡ Some r → e.0 < n) [
        | true ↦ λ x y. subst (λ k. e.0 < k) (sym (one_number n d.0 x)) a.0
        | false ↦ λ x y. found_above n r e es a.1 y
      ] refl h

  -- one number more, that stands among the entries
  pub found_more : (n : ℕ) (r : X) (p : ℕ × X → Bool) (es : List (ℕ × X)) → Ascends (map key es)
      → find nat_cmp n es ≡ Some r → map key (filter (λ e. (e.0 == n) || p e) es) ≡ with_number n
      (map key (filter p es))
  found_more n r p [] a h = absurd cc
  found_more n r p (e ∷ es) a h = elim (eq_by_cmp nat_cmp n e.0) as (λ b. eq_by_cmp nat_cmp n e.0 ≡ b
      → cond b (Some e.1) (find nat_cmp n es) ≡ Some r
      → map key (cond ((e.0 == n) || p e) (e ∷ filter (λ e. (e.0 == n) || p e) es) (filter (λ e. (e.0 == n) || p e) es))
      ≡ with_number n (map key (cond (p e) (e ∷ filter p es) (filter p es)))) [
        | true ↦ λ x y.
            let same : n ≡ e.0 = one_number n e.0 x in
            let below : EachOf (λ k. n < k) (map key es) = subst (λ m. EachOf (λ k. m < k) (map key es))
            (sym same) a.0 in
            let rest : filter (λ e. (e.0 == n) || p e) es ≡ filter p es = same_found (λ e. (e.0 == n) || p e) p es
            (below_test n p es below) in
            let here : (e.0 == n) ≡ true = ap (λ k. e.0 == k) same ∙ same_self e.0 in
            ap (λ b. map key (cond (b || p e) (e ∷ filter (λ e. (e.0 == n) || p e) es)
            (filter (λ e. (e.0 == n) || p e) es))) here
            ∙ ap (λ l. e.0 ∷ map key l) rest
            ∙ elim (p e) as (λ b. e.0 ∷ map key (filter p es) ≡ with_number n
            (map key (cond b (e ∷ filter p es) (filter p es)))) [
              | true ↦ sym (ap (λ b. if b then e.0 ∷ map key (filter p es)
                  else (if nat_lt n e.0 then n ∷ (e.0 ∷ map key (filter p es)) else e.0 ∷ with_number n
                  (map key (filter p es)))) (ap (λ k. k == e.0) same ∙ same_self e.0))
              | false ↦ ap (λ k. k ∷ map key (filter p es)) (sym same) ∙ sym (below_first n p es below)
            ]
        | false ↦ λ x y.
            let above : e.0 < n = found_above n r e es a.0 y in
            let other : (e.0 == n) ≡ false = number_other e.0 n (λ same. absurd (omega arith)) in
            let rest = found_more n r p es a.1 y in
            ap (λ b. map key (cond (b || p e) (e ∷ filter (λ e. (e.0 == n) || p e) es)
            (filter (λ e. (e.0 == n) || p e) es))) other
            ∙ elim (p e) as (λ b. map key
            (cond b (e ∷ filter (λ e. (e.0 == n) || p e) es) (filter (λ e. (e.0 == n) || p e) es))
            ≡ with_number n (map key (cond b (e ∷ filter p es) (filter p es)))) [
              | true ↦
                  ap (λ l. e.0 ∷ l) rest
                  ∙ sym (ap (λ b. if b then e.0 ∷ map key (filter p es)
                  else (if nat_lt n e.0 then n ∷ (e.0 ∷ map key (filter p es)) else e.0 ∷ with_number n
                  (map key (filter p es)))) (number_other n e.0 (λ same. absurd (omega arith)))
                  ∙ ap (λ b. if b then n ∷ (e.0 ∷ map key (filter p es)) else e.0 ∷ with_number n
                  (map key (filter p es))) (not_less n e.0 above))
              | false ↦ rest
            ]
      ] refl h

-- the numbers of the changes are those that the code finds
module _ (keep gone : ℕ) (c : Content) (k g : Record) (at_k : get c.records keep ≡ Some k)
    (at_g : get c.records gone ≡ Some g) where
  abbrev names_gone : ℕ × Record → Bool
  names_gone e = is_among gone (links e.1)

  same_keys : (es : List (ℕ × Record)) → map (λ (x : Change). x.number)
      (map (change_at keep gone c.records) es) ≡ map key es
  same_keys [] = refl
  same_keys (e ∷ es) = ap (λ l. e.0 ∷ l) (same_keys es)

  never : (a b : Bool) → ((a && false) || b) ≡ b
  never true b = refl
  never false b = refl

  always : (a b : Bool) → ((a && true) || b) ≡ (a || b)
  always true b = refl
  always false b = refl

  none_kept : (es : List (ℕ × Record))
      → EachOf (λ (e : ℕ × Record). ((e.0 == keep && false) || names_gone e) ≡ names_gone e) es
  none_kept es = each_all (λ (e : ℕ × Record). ((e.0 == keep && false) || names_gone e) ≡ names_gone e)
      (λ e. never (e.0 == keep) (names_gone e)) es

  all_kept : (es : List (ℕ × Record))
      → EachOf (λ (e : ℕ × Record). ((e.0 == keep && true) || names_gone e) ≡ ((e.0 == keep) || names_gone e)) es
  all_kept es = each_all (λ (e : ℕ × Record). ((e.0 == keep && true) || names_gone e) ≡ ((e.0 == keep) || names_gone e))
      (λ e. always (e.0 == keep) (names_gone e)) es

  pub numbers_found : map (λ (x : Change). x.number) (merge_changes keep gone c.records) ≡ changed_numbers keep gone c
  numbers_found =
      let m : Records = c.records in
      let found_k : find nat_cmp keep (entries m) ≡ Some k = sym (get-entries m keep) ∙ at_k in
      let found_g : find nat_cmp gone (entries m) ≡ Some g = sym (get-entries m gone) ∙ at_g in
      same_keys (filter (λ e. is_changed keep gone m e.0 e.1) (entries m))
      ∙ found_more gone g (λ e. (e.0 == keep && not (adds_nothing (get m gone))) || names_gone e) (entries m)
      (entries_rise m) found_g
      ∙ ap (with_number gone)
      (elim (adds_nothing (get m gone)) as (λ b. map key
      (filter (λ e. (e.0 == keep && not b) || names_gone e) (entries m))
      ≡ (if b then referrers c gone else with_number keep (referrers c gone))) [
        | true ↦ ap (map key) (same_found (λ e. (e.0 == keep && false) || names_gone e) names_gone (entries m)
            (none_kept (entries m)))
        | false ↦ ap (map key) (same_found (λ e. (e.0 == keep && true) || names_gone e)
            (λ e. (e.0 == keep) || names_gone e) (entries m) (all_kept (entries m))) ∙ found_more keep k names_gone
            (entries m) (entries_rise m) found_k
      ])
