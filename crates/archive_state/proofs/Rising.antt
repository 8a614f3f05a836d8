-- Maps with numbers for keys, as lists of entries that rise: what is below the first is none of them.
use Rattle.std.proofs.Common.{◌≡◌, ℕ, List, [], ◌∷◌, refl, ap, ◌∙◌, cond}
use Rattle.std.specs.Prelude.{Some, None, T}
use Rattle.std.specs.Ordering.{nat_cmp, is_lt, is_eq}
use Rattle.std.specs.declared.cmp.Ordering.{Ordering}
use Rattle.std.specs.declared.cmp.Ordering.TheVariants.{Less, Equal, Greater}
use Rattle.std.specs.FinMap.{find}
use Rattle.std.specs.FinMap.Entries.{below_all}
use Rattle.list_laws.proofs.Booleans.{first_holds, rest_holds}

pub less_is : (o : Ordering) → T (is_lt o) → o ≡ Less
less_is Less p = refl
less_is Equal p = absurd p
less_is Greater p = absurd p

-- what is below all keys is none of them
pub not_found : {X : Type 0} (k : ℕ) (es : List (ℕ × X)) → T (below_all nat_cmp k es) → find nat_cmp k es ≡ None
not_found k [] h = refl
not_found k (e ∷ es) h =
    ap (λ o. cond (is_eq o) (Some e.1) (find nat_cmp k es))
    (less_is (nat_cmp k e.0) (first_holds (is_lt (nat_cmp k e.0)) (below_all nat_cmp k es) h))
    ∙ not_found k es (rest_holds (is_lt (nat_cmp k e.0)) (below_all nat_cmp k es) h)
