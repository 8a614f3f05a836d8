-- The lines that name a number are those of its referrers.
use Rattle.std.proofs.Common.{
  ◌≡◌,
  ℕ,
  Bool,
  true,
  false,
  List,
  [],
  ◌∷◌,
  map,
  filter,
  cond,
  refl,
  sym,
  ap,
  subst,
  ◌∙◌,
  arith,
}
use Rattle.std.specs.Prelude.{◌==◌, ◌&&◌, ◌||◌, Some, None, T}
use Rattle.std.specs.List.{list_any}
use Rattle.std.specs.FinMap.{find, is_sorted}
use Rattle.std.specs.FinMap.Entries.{below_all}
use Rattle.std.specs.Ordering.{nat_cmp}
use Rattle.std.specs.Cmp.{unsigned_tied}
use Rattle.std.proofs.lemmas.Bool.Decides.{nat_tests}
use Rattle.record_kinds.specs.declared.record.Record.{Record}
use Rattle.archive_state.specs.Links.{is_among, links}
use Rattle.archive_state.specs.Referrers.{naming}
use Rattle.store_rows.specs.Links.{names_at}
use Rattle.store_rows.proofs.Own.{either_way}
use Rattle.archive_state.proofs.Rising.{not_found}
use Rattle.list_laws.proofs.Booleans.{first_holds, rest_holds}

is_it : (m k : ℕ) → (k == m) ≡ true → m ≡ k
is_it m k e = grind (arith, nat_tests, e)

-- a number is among those of entries that name another exactly where the record that is found under it does
pub named_found : (n m : ℕ) (es : List (ℕ × Record)) → T (is_sorted nat_cmp es) → list_any (λ k. k == m) (naming n es)
    ≡ names_at n (find nat_cmp m es)
named_found n m [] h = refl
named_found n m (e ∷ es) h =
    let more = named_found n m es (rest_holds (below_all nat_cmp e.0 es) (is_sorted nat_cmp es) h) in
    let below = first_holds (below_all nat_cmp e.0 es) (is_sorted nat_cmp es) h in
    (elim (e.0 == m) as (λ b. (e.0 == m) ≡ b → list_any (λ k. k == m) (naming n (e ∷ es)) ≡ names_at n
    (cond b (Some e.1) (find nat_cmp m es))) [
      | true ↦ λ here.
          let none : find nat_cmp m es ≡ None = not_found m es
          (subst (λ k. T (below_all nat_cmp k es)) (sym (is_it m e.0 here)) below) in
          let rest : list_any (λ k. k == m) (naming n es) ≡ false = more ∙ ap (names_at n) none in
          elim (is_among n (links e.1)) as (λ a. list_any (λ k. k == m)
          (map (λ (x : ℕ × Record). x.0)
          (cond a (e ∷ filter (λ (x : ℕ × Record). is_among n (links x.1)) es)
          (filter (λ (x : ℕ × Record). is_among n (links x.1)) es))) ≡ a) [
            | true ↦ ap (λ b. b || list_any (λ k. k == m) (naming n es)) here
            | false ↦ rest
          ]
      | false ↦ λ off.
          elim (is_among n (links e.1)) as (λ a. list_any (λ k. k == m)
          (map (λ (x : ℕ × Record). x.0)
          (cond a (e ∷ filter (λ (x : ℕ × Record). is_among n (links x.1)) es)
          (filter (λ (x : ℕ × Record). is_among n (links x.1)) es))) ≡ names_at n (find nat_cmp m es)) [
            | true ↦ ap (λ b. b || list_any (λ k. k == m) (naming n es)) off ∙ more
            | false ↦ more
          ]
    ] refl)
    ∙ ap (λ b. names_at n (cond b (Some e.1) (find nat_cmp m es))) (sym (unsigned_tied m e.0 ∙ either_way m e.0))

-- ---- the lines
pub and_swap : (a b : Bool) → (a && b) ≡ (b && a)
and_swap true true = refl
and_swap true false = refl
and_swap false true = refl
and_swap false false = refl
