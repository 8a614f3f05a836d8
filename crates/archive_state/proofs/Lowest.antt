-- The lowest number of which P holds, looked for along the entries of a map, which rise.
use Rattle.std.proofs.Common.{◌≡◌, ℕ, List, [], ◌∷◌, refl, sym, ap, subst, ◌∙◌, cond}
use Rattle.std.specs.Prelude.{Some, None, T, ◌&&◌, map}
use Rattle.std.specs.List.Sorted.{IsStrictlySortedBy}
use Rattle.std.specs.Ordering.{nat_cmp, is_lt, is_eq}
use Rattle.std.specs.Cmp.{nat_cmp_total, nat_cmp_is, ranked}
use Rattle.std.specs.declared.cmp.Ordering.TheVariants.{Less, Equal, Greater}
use Rattle.std.specs.FinMap.Entries.{below_all}
use Rattle.std.specs.FinMap.{find, is_sorted, get, from_entries, get-from_entries}
use Rattle.record_kinds.specs.declared.record.Record.{Record}
use Rattle.archive_state.specs.Content.{Records}
use Rattle.archive_state.specs.Paths.{IsLowest}
use Rattle.archive_state.proofs.Entries.{sorted_of}
use Rattle.archive_state.proofs.Rising.{less_is, not_found}
use Rattle.list_laws.proofs.Booleans.{first_holds, rest_holds}

-- what is below one that is below all is below all
below_below : {X : Type 0} (k x : ℕ) (es : List (ℕ × X)) → nat_cmp k x ≡ Less → T (below_all nat_cmp x es)
    → T (below_all nat_cmp k es)
below_below k x [] e h = tt
below_below k x (f ∷ es) e h =
    let here : nat_cmp x f.0 ≡ Less = less_is (nat_cmp x f.0)
    (first_holds (is_lt (nat_cmp x f.0)) (below_all nat_cmp x es) h) in
    let there : nat_cmp k f.0 ≡ Less = nat_cmp_total.trans k x f.0 e here in
    let rest : T (below_all nat_cmp k es) = below_below k x es e
    (rest_holds (is_lt (nat_cmp x f.0)) (below_all nat_cmp x es) h) in
    subst (λ o. T (is_lt o && below_all nat_cmp k es)) (sym there) rest

-- where P holds of a number, something stands there
abbrev pub IsThere : Records → (ℕ → Type 0) → Type 0
IsThere m P = (k : ℕ) → P k → get m k ≡ None → ⊥

-- entries of the map in order, among which each number of which P holds stands
pub record Ahead (m : Records) (P : ℕ → Type 0) (es : List (ℕ × Record)) : Type 0 where
  pub rises : T (is_sorted nat_cmp es)
  pub holds : (k : ℕ) → P k → find nat_cmp k es ≡ get m k
  pub stands : (k : ℕ) (r : Record) → find nat_cmp k es ≡ Some r → get m k ≡ Some r

pub ahead_of_all : (es : List (ℕ × Record)) (P : ℕ → Type 0) → IsStrictlySortedBy nat_cmp (map (λ e. e.0) es)
    → Ahead (from_entries es) P es
ahead_of_all es P h = record {
  rises = sorted_of es h;
  holds = λ k p. sym (get-from_entries nat_cmp_total es k);
  stands = λ k r f. get-from_entries nat_cmp_total es k ∙ f;
}

-- the first of them stands in the map
pub ahead_first : (m : Records) (P : ℕ → Type 0) (e : ℕ × Record) (es : List (ℕ × Record)) → Ahead m P (e ∷ es)
    → get m e.0 ≡ Some e.1
ahead_first m P e es h = h.stands e.0 e.1 (ap (λ o. cond (is_eq o) (Some e.1) (find nat_cmp e.0 es))
    (sym (nat_cmp_is e.0 e.0 Equal refl)))

-- one of which P does not hold may be passed
pub ahead_past : (m : Records) (P : ℕ → Type 0) (e : ℕ × Record) (es : List (ℕ × Record)) → Ahead m P (e ∷ es)
    → ¬ (P e.0) → Ahead m P es
ahead_past m P e es h other = record {
  rises = rest_holds (below_all nat_cmp e.0 es) (is_sorted nat_cmp es) h.rises;
  holds = λ k p.
      elim (nat_cmp k e.0) as (λ o. nat_cmp k e.0 ≡ o → cond (is_eq o) (Some e.1) (find nat_cmp k es) ≡ get m k
      → find nat_cmp k es ≡ get m k) [
        | Less ↦ λ q f. f
        | Equal ↦ λ q f. let same : k ≡ e.0 = ranked k e.0 Equal (sym q) in absurd (other (subst P same p))
        | Greater ↦ λ q f. f
      ] refl (h.holds k p);
  stands = λ k r.
      elim (nat_cmp k e.0) as (λ o. nat_cmp k e.0 ≡ o
      → (cond (is_eq o) (Some e.1) (find nat_cmp k es) ≡ Some r → get m k ≡ Some r) → find nat_cmp k es ≡ Some r
      → get m k ≡ Some r) [
        | Less ↦ λ q f g. f g
        | Equal ↦ λ q f g.
            let same : k ≡ e.0 = ranked k e.0 Equal (sym q) in
            let below : T (below_all nat_cmp k es) = subst (λ n. T (below_all nat_cmp n es)) (sym same)
            (first_holds (below_all nat_cmp e.0 es) (is_sorted nat_cmp es) h.rises) in
            let both : None ≡ Some r = sym (not_found k es below) ∙ g in cc
        | Greater ↦ λ q f g. f g
      ] refl (h.stands k r);
}

-- the first of which P holds is the lowest
pub ahead_found : (m : Records) (P : ℕ → Type 0) (e : ℕ × Record) (es : List (ℕ × Record)) → IsThere m P
    → Ahead m P (e ∷ es) → P e.0 → IsLowest P (Some e.0)
ahead_found m P e es there h p = (
  p,
  λ k less q.
      let lower : nat_cmp k e.0 ≡ Less = sym (nat_cmp_is k e.0 Less less) in
      let below : T (below_all nat_cmp k es) = below_below k e.0 es lower
      (first_holds (below_all nat_cmp e.0 es) (is_sorted nat_cmp es) h.rises) in
      let gone : find nat_cmp k (e ∷ es) ≡ None = ap (λ o. cond (is_eq o) (Some e.1) (find nat_cmp k es)) lower
      ∙ not_found k es below in
      there k q (sym (h.holds k q) ∙ gone),
)

-- where none is left, P holds of none
pub ahead_none : (m : Records) (P : ℕ → Type 0) → IsThere m P → Ahead m P [] → IsLowest P None
ahead_none m P there h = λ n p. there n p (sym (h.holds n p))
