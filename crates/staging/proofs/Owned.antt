-- The numbers of a batch as a set, and the links that are from these.
use Rattle.std.proofs.Common.{◌≡◌, ℕ, Bool, true, false, List, [], ◌∷◌, ◌++◌, arith, cond, filter, refl, ap, ◌∙◌}
use Rattle.std.specs.Prelude.{◌==◌, ◌||◌}
use Rattle.std.specs.BTreeSet as set
use Rattle.std.specs.BTreeSet.{BTreeSet}
use Rattle.std.specs.List.{list_any}
use Rattle.std.specs.Ordering.{is_eq, nat_cmp}
use Rattle.std.proofs.lemmas.Bool.Decides.{nat_tests}
use Rattle.store_tables.specs.Rows.{LinkRow}
use Rattle.staged_rows.specs.Removing.{is_from}

-- what a set says of a number once one is put into it
pub inserted : (k n : ℕ) (before after : Bool) → after ≡ cond (is_eq (nat_cmp k n)) true before
    → after ≡ (before || (k == n))
inserted k n before after is =
    let same : is_eq (nat_cmp k n) ≡ (k == n) = grind (arith, nat_tests) in
    is ∙ ap (λ b. cond b true before) same ∙ either (k == n) before
  where
    either : (b old : Bool) → cond b true old ≡ (old || b)
    either true true = refl
    either true false = refl
    either false true = refl
    either false false = refl

pub filter_more : {X : Type 0} (q : X → Bool) (xs ys : List X) → filter q (xs ++ ys) ≡ filter q xs ++ filter q ys
filter_more q [] ys = refl
filter_more q (x ∷ xs) ys =
    elim (q x) as (λ b. cond b (x ∷ filter q (xs ++ ys)) (filter q (xs ++ ys))
    ≡ cond b (x ∷ filter q xs) (filter q xs) ++ filter q ys) [
      | true ↦ ap (λ zs. x ∷ zs) (filter_more q xs ys)
      | false ↦ filter_more q xs ys
    ]

-- a set of some numbers finds the links that are from these
pub filter_alike : (ns : List ℕ) (all : BTreeSet ℕ)
    → ((n : ℕ) → set.contains nat_cmp all n ≡ list_any (λ k. k == n) ns) → (ls : List LinkRow)
    → filter (λ (l : LinkRow). set.contains nat_cmp all l.no) ls ≡ filter (is_from ns) ls
filter_alike ns all same [] = refl
filter_alike ns all same (l ∷ ls) =
    ap (λ b. cond b (l ∷ filter (λ (x : LinkRow). set.contains nat_cmp all x.no) ls)
    (filter (λ (x : LinkRow). set.contains nat_cmp all x.no) ls)) (same l.no)
    ∙ ap (λ xs. cond (is_from ns l) (l ∷ xs) xs) (filter_alike ns all same ls)
