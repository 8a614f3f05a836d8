-- The entries of a `BTreeMap` under numbers, which rise, as those of the finite map that they make.
use Rattle.std.proofs.Common.{◌≡◌, ℕ, List, [], ◌∷◌, sym, ap, subst, ◌∙◌}
use Rattle.std.specs.Prelude.{map}
use Rattle.std.specs.Prelude.{T}
use Rattle.std.specs.List.{AllByRecursion}
use Rattle.std.specs.List.Sorted.{IsStrictlySortedBy}
use Rattle.std.specs.Ordering.{nat_cmp, is_lt}
use Rattle.std.specs.declared.cmp.Ordering.TheVariants.{Less}
use Rattle.std.specs.Cmp.{nat_cmp_total}
use Rattle.std.specs.FinMap.Entries.{below_all}
use Rattle.std.specs.FinMap.{
  is_sorted,
  entries,
  from_entries,
  from_sorted,
  get-from_entries,
  get-from_sorted,
  entries-from_sorted,
  same_map,
  nat_cmp-IsAntisymmetric,
}
use Rattle.list_laws.proofs.Booleans.{both_hold}

module _ {X : Type 0} where
  below_of : (x : ℕ) (es : List (ℕ × X)) → AllByRecursion (λ y. nat_cmp x y ≡ Less) (map (λ e. e.0) es)
      → T (below_all nat_cmp x es)
  below_of x [] h = tt
  below_of x (e ∷ es) h = both_hold (is_lt (nat_cmp x e.0)) (below_all nat_cmp x es)
      (subst (λ r. T (is_lt r)) (sym h.0) tt)
      (below_of x es h.1)

  -- keys in order are those of a list in order
  pub sorted_of : (es : List (ℕ × X)) → IsStrictlySortedBy nat_cmp (map (λ e. e.0) es) → T (is_sorted nat_cmp es)
  unfolding IsStrictlySortedBy
  sorted_of [] h = tt
  sorted_of (e ∷ es) h = both_hold (below_all nat_cmp e.0 es) (is_sorted nat_cmp es) (below_of e.0 es h.0)
      (sorted_of es h.1)

  -- entries in order are those of the map that they make
  pub entries_back : (es : List (ℕ × X)) → IsStrictlySortedBy nat_cmp (map (λ e. e.0) es)
      → entries (from_entries {R = nat_cmp} es) ≡ es
  entries_back es h =
      let s : T (is_sorted nat_cmp es) = sorted_of es h in
      ap entries (same_map nat_cmp_total nat_cmp-IsAntisymmetric (from_entries es) (from_sorted es)
      (λ q. get-from_entries nat_cmp_total es q ∙ sym (get-from_sorted nat_cmp es q s)))
      ∙ entries-from_sorted nat_cmp es s
