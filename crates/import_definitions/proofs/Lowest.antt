-- The lowest number of which P holds is the first of those that a test picks among the numbers of a map, which rise.
use Rattle.std.proofs.Common.{◌≡◌, ℕ, Bool, true, false, List, [], ◌∷◌, refl, sym, ap, subst, ◌∙◌, cond}
use Rattle.std.specs.Prelude.{Option, Some, None, T, ◌&&◌, map}
use Rattle.std.specs.List.{filter}
use Rattle.std.specs.Ordering.{nat_cmp, is_lt, is_eq}
use Rattle.std.specs.Cmp.{nat_cmp_total, ranked}
use Rattle.std.specs.declared.cmp.Ordering.TheVariants.{Less, Equal, Greater}
use Rattle.std.specs.FinMap.Entries.{below_all}
use Rattle.std.specs.FinMap.{entries, entries_sorted, find, get, get-entries, is_sorted}
use Rattle.std.proofs.lemmas.Slice.Eq.{bytes_eq-Decides}
use Rattle.record_kinds.specs.declared.record.Record.TheVariants as kind
use Rattle.record_shapes.specs.Picking.{first}
use Rattle.record_shapes.specs.Reading.{has_path}
use Rattle.archive_state.specs.Content.{Records}
use Rattle.archive_state.specs.Known.{path_of}
use Rattle.archive_state.specs.Paths.{Climbs, HasPath, IsLowest}
use Rattle.archive_state.proofs.Known.{path_known}
use Rattle.archive_state.proofs.Rising.{less_is, not_found}
use Rattle.import_definitions.specs.Made.{lowest_place}
use Rattle.record_shapes.proofs.PathTexts.{path_has}
use Rattle.list_laws.proofs.Booleans.{first_holds, rest_holds}

module _ {X : Type 0} where
  -- what is below one that is below all is below all
  below_below : (k x : ℕ) (es : List (ℕ × X)) → nat_cmp k x ≡ Less → T (below_all nat_cmp x es)
      → T (below_all nat_cmp k es)
  below_below k x [] e h = tt
  below_below k x (f ∷ es) e h =
      let here : nat_cmp x f.0 ≡ Less = less_is (nat_cmp x f.0)
      (first_holds (is_lt (nat_cmp x f.0)) (below_all nat_cmp x es) h) in
      let there : nat_cmp k f.0 ≡ Less = nat_cmp_total.trans k x f.0 e here in
      let rest : T (below_all nat_cmp k es) = below_below k x es e
      (rest_holds (is_lt (nat_cmp x f.0)) (below_all nat_cmp x es) h) in
      subst (λ o. T (is_lt o && below_all nat_cmp k es)) (sym there) rest

  module _ (P : ℕ → Type 0) (Q : ℕ → Bool) (holds : (k : ℕ) → Q k ≡ true → P k) (tells : (k : ℕ) → P k → Q k ≡ true)
    where
      first_is : (e : ℕ × X) (es : List (ℕ × X)) → T (is_sorted nat_cmp (e ∷ es))
          → ((k : ℕ) → P k → find nat_cmp k (e ∷ es) ≡ None → ⊥) → P e.0 → (found : Option ℕ) → IsLowest P found
          → found ≡ Some e.0
      first_is e es s there p None low = absurd (low e.0 p)
      first_is e es s there p (Some n) low =
          elim (nat_cmp n e.0) as (λ o. nat_cmp n e.0 ≡ o → Some n ≡ Some e.0) [
            | Less ↦ λ q.
                let below : T (below_all nat_cmp n es) = below_below n e.0 es q
                (first_holds (below_all nat_cmp e.0 es) (is_sorted nat_cmp es) s) in
                absurd (there n low.0 (ap (λ o. cond (is_eq o) (Some e.1) (find nat_cmp n es)) q
                ∙ not_found n es below))
            | Equal ↦ λ q. ap Some (ranked n e.0 Equal (sym q))
            | Greater ↦ λ q. absurd (low.1 e.0 (ranked n e.0 Greater (sym q)) p)
          ] refl

      pub first_along : (es : List (ℕ × X)) → T (is_sorted nat_cmp es)
          → ((k : ℕ) → P k → find nat_cmp k es ≡ None → ⊥) → (found : Option ℕ) → IsLowest P found
          → found ≡ first (filter Q (map (λ e. e.0) es))
      first_along [] s there None low = refl
      first_along [] s there (Some n) low = absurd (there n low.0 refl)
      first_along (e ∷ es) s there found low =
          elim (Q e.0) as (λ b. Q e.0 ≡ b → found ≡ first (cond b (e.0 ∷ filter Q (map (λ e. e.0) es))
          (filter Q (map (λ e. e.0) es)))) [
            | true ↦ λ q. first_is e es s there (holds e.0 q) found low
            | false ↦ λ q. first_along es (rest_holds (below_all nat_cmp e.0 es) (is_sorted nat_cmp es) s)
                (λ k p gone. there k p (elim (nat_cmp k e.0) as (λ o. nat_cmp k e.0 ≡ o
                → cond (is_eq o) (Some e.1) (find nat_cmp k es) ≡ None) [
                  | Less ↦ λ o. gone
                  | Equal ↦ λ o.
                      let same : k ≡ e.0 = ranked k e.0 Equal (sym o) in
                      let both : true ≡ false = sym (tells e.0 (subst P same p)) ∙ q in absurd cc
                  | Greater ↦ λ o. gone
                ] refl)) found low
          ] refl

-- ---- the lowest place

is_path_told : (path : List ℕ) (o : Option (List ℕ)) → o ≡ Some path → has_path path o ≡ true
is_path_told path o h = ap (has_path path) h ∙ (bytes_eq-Decides path path).1 refl

-- where a path is, a place stands
stands : (m : Records) (n : ℕ) (names : List (List ℕ)) → Climbs m n names → get m n ≡ None → ⊥
stands m n [] h gone = h
stands m n (name ∷ []) h gone = let both : None ≡ Some (kind.Place h.0) = sym gone ∙ h.1 in cc
stands m n (name ∷ (above ∷ names)) h gone = let both : None ≡ Some (kind.Place h.0) = sym gone ∙ h.1 in cc

pub lowest_is : (m : Records) (path : List ℕ) (found : Option ℕ) → IsLowest (λ n. HasPath m n path) found
    → found ≡ lowest_place m path
unfolding lowest_place
lowest_is m path found low = first_along (λ n. HasPath m n path) (λ n. has_path path (path_of m n))
    (λ k h. (path_known m k path).1 (path_has path (path_of m k) h))
    (λ k h. is_path_told path (path_of m k) ((path_known m k path).0 h)) (entries m) (entries_sorted m)
    (λ k h gone. stands m k h.0 h.1 (get-entries m k ∙ gone)) found low
