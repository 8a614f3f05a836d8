-- The records of a map are found by their numbers.
use Rattle.std.proofs.Common.{◌≡◌, ℕ, ◌<◌, List, [], ◌∷◌, ◌++◌, Bool, true, false, cond, refl, sym, ap, ◌∙◌, arith}
use Rattle.std.specs.Prelude.{Option, Some, T}
use Rattle.std.specs.List.{filter, flat_map}
use Rattle.std.specs.FinMap.{entries, entries_sorted, find, get, get-entries, is_sorted}
use Rattle.std.specs.FinMap.Entries.{below_all}
use Rattle.std.specs.Ordering.{is_eq, is_lt, nat_cmp}
use Rattle.std.specs.Cmp.{nat_cmp_is, ranked}
use Rattle.std.specs.declared.cmp.Ordering.TheVariants.{Less, Equal, Greater}
use Rattle.record_kinds.specs.declared.record.Record.{Record}
use Rattle.record_shapes.specs.Lists.{EachOf}
use Rattle.archive_state.specs.Content.{Records}
use Rattle.archive_state.proofs.Rising.{less_is}
use Rattle.gedcom_export.specs.Order.{Numbered}
use Rattle.gedcom_export.specs.Index.{numbers}
use Rattle.list_laws.proofs.Booleans.{first_holds, rest_holds}

-- each is found at its number
abbrev pub AreAt : (ℕ → Option Record) → List Numbered → Type 0
AreAt at es = EachOf (λ (e : Numbered). at e.0 ≡ Some e.1) es

found_behind : (k n : ℕ) (r s : Record) (es : List Numbered) → k < n → find nat_cmp n es ≡ Some s
    → cond (is_eq (nat_cmp n k)) (Some r) (find nat_cmp n es) ≡ Some s
found_behind k n r s es less found =
    (elim (nat_cmp n k) as (λ o. nat_cmp n k ≡ o → cond (is_eq o) (Some r) (find nat_cmp n es) ≡ Some s) [
      | Less ↦ λ is. found
      | Equal ↦ λ is. let same : n ≡ k = ranked n k Equal (sym is) in absurd (omega arith)
      | Greater ↦ λ is. found
    ]) refl

behind : (k : ℕ) (r : Record) (es fs : List Numbered) → T (below_all nat_cmp k fs)
    → AreAt (λ n. find nat_cmp n es) fs → AreAt (λ n. find nat_cmp n ((k, r) ∷ es)) fs
behind k r es [] less h = tt
behind k r es (f ∷ fs) less h = (
  found_behind k f.0 r f.1 es
      (ranked k f.0 Less (sym (less_is (nat_cmp k f.0)
      (first_holds (is_lt (nat_cmp k f.0)) (below_all nat_cmp k fs) less)))) h.0,
  behind k r es fs (rest_holds (is_lt (nat_cmp k f.0)) (below_all nat_cmp k fs) less) h.1,
)

all_found : (es : List Numbered) → T (is_sorted nat_cmp es) → AreAt (λ n. find nat_cmp n es) es
all_found [] rises = tt
all_found (e ∷ es) rises = (
  ap (λ o. cond (is_eq o) (Some e.1) (find nat_cmp e.0 es)) (sym (nat_cmp_is e.0 e.0 Equal refl)),
  behind e.0 e.1 es es (first_holds (below_all nat_cmp e.0 es) (is_sorted nat_cmp es) rises)
      (all_found es (rest_holds (below_all nat_cmp e.0 es) (is_sorted nat_cmp es) rises)),
)

each_got : (m : Records) (es : List Numbered) → AreAt (λ n. find nat_cmp n (entries m)) es → AreAt (get m) es
each_got m [] h = tt
each_got m (e ∷ es) h = (get-entries m e.0 ∙ h.0, each_got m es h.1)

pub all_got : (m : Records) → AreAt (get m) (entries m)
all_got m = each_got m (entries m) (all_found (entries m) (entries_sorted m))

module _ (at : ℕ → Option Record) where
  pub some_at : (p : Numbered → Bool) (es : List Numbered) → AreAt at es → AreAt at (filter p es)
  some_at p [] h = tt
  some_at p (e ∷ es) h =
      elim (p e) as (λ b. AreAt at (cond b (e ∷ filter p es) (filter p es))) [
        | true ↦ (h.0, some_at p es h.1)
        | false ↦ some_at p es h.1
      ]

  -- what is made of each number is what is made of its record
  pub by_records : {A : Type 0} (f : ℕ → Option Record → List A) (es : List Numbered) → AreAt at es
      → flat_map (λ (n : ℕ). f n (at n)) (numbers es) ≡ flat_map (λ (e : Numbered). f e.0 (Some e.1)) es
  by_records f [] h = refl
  by_records f (e ∷ es) h = λ i. f e.0 (h.0 i) ++ by_records f es h.1 i

-- what is the same of each that passes is the same of all that pass
pub same_of : {A : Type 0} (f g : Numbered → List A) (p : Numbered → Bool)
    → ((e : Numbered) → p e ≡ true → f e ≡ g e) → (es : List Numbered)
    → flat_map f (filter p es) ≡ flat_map g (filter p es)
same_of f g p h [] = refl
same_of f g p h (e ∷ es) =
    (elim (p e) as (λ b. p e ≡ b
    → flat_map f (cond b (e ∷ filter p es) (filter p es)) ≡ flat_map g (cond b (e ∷ filter p es) (filter p es))) [
      | true ↦ λ is i. h e is i ++ same_of f g p h es i
      | false ↦ λ is. same_of f g p h es
    ]) refl
