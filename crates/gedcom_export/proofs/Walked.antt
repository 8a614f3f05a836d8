-- A walk over the numbers of all records finds all entries, in their order.
use Rattle.std.proofs.Common.{
  ◌≡◌,
  ◌<◌,
  ◌≤◌,
  ◌+◌,
  ◌++◌,
  ℕ,
  List,
  length,
  take,
  get_or,
  [],
  ◌∷◌,
  false,
  cond,
  refl,
  sym,
  ap,
  ◌∙◌,
  arith,
}
use Rattle.std.proofs.lemmas.List.{take_all, take_more}
use Rattle.std.proofs.lemmas.List.Sums.{fold-append}
use Rattle.std.proofs.lemmas.Bool.{ne_eqb}
use Rattle.std.specs.Prelude.{Option, Some, None, T}
use Rattle.std.specs.Ordering.{nat_cmp, is_eq, is_lt}
use Rattle.std.specs.Cmp.{ranked, unsigned_tied}
use Rattle.std.specs.declared.cmp.Ordering.TheVariants.{Less}
use Rattle.std.specs.FinMap.{find, is_sorted}
use Rattle.std.specs.FinMap.Entries.{below_all}
use Rattle.record_kinds.specs.declared.record.Record.{Record}
use Rattle.archive_state.proofs.Rising.{less_is}
use Rattle.gedcom_export.specs.Order.{Numbered}
use Rattle.gedcom_export.specs.Adding.{gathered_of, with_found}
use Rattle.gedcom_export.specs.Index.{Index}
use Rattle.list_laws.proofs.Booleans.{first_holds, rest_holds}
use Rattle.list_laws.proofs.Numbers.{itself}

-- one number more
pub one_more : (at : ℕ → Option Record) (ns : List ℕ) (i : ℕ) → i < length ns
    → gathered_of at (take (i + 1) ns) ≡ with_found (get_or ns i 0) (at (get_or ns i 0)) (gathered_of at (take i ns))
one_more at ns i less =
    ap (gathered_of at) (take_more ns i 0 less)
    ∙ fold-append (λ (x : Index) n. with_found n (at n) x) (gathered_of at []) (take i ns) (get_or ns i 0 ∷ [])

pub all_walked : (at : ℕ → Option Record) (ns : List ℕ) (i : ℕ) → length ns ≤ i
    → gathered_of at (take i ns) ≡ gathered_of at ns
all_walked at ns i all = ap (gathered_of at) (take_all i ns all)

-- what stands at a number, as a list
abbrev pub at_number : ℕ → Option Record → List Numbered
at_number n None = []
at_number n (Some r) = (n, r) ∷ []

-- ---- what is found under the number of an entry
abbrev pub Rises : List Numbered → Type 0
Rises es = T (is_sorted nat_cmp es)

first_below : (f e : Numbered) (fs es : List Numbered) → T (below_all nat_cmp f.0 (fs ++ e ∷ es)) → f.0 < e.0
first_below f e [] es h = ranked f.0 e.0 Less
    (sym (less_is (nat_cmp f.0 e.0) (first_holds (is_lt (nat_cmp f.0 e.0)) (below_all nat_cmp f.0 es) h)))
first_below f e (g ∷ fs) es h = first_below f e fs es
    (rest_holds (is_lt (nat_cmp f.0 g.0)) (below_all nat_cmp f.0 (fs ++ e ∷ es)) h)

passed_over : (f e : Numbered) (fs es : List Numbered) → Rises (f ∷ fs ++ e ∷ es)
    → is_eq (nat_cmp e.0 f.0) ≡ false
passed_over f e fs es h =
    let less : f.0 < e.0 = first_below f e fs es
    (first_holds (below_all nat_cmp f.0 (fs ++ e ∷ es)) (is_sorted nat_cmp (fs ++ e ∷ es)) h) in
    unsigned_tied e.0 f.0 ∙ ne_eqb e.0 f.0 (λ same. omega arith)

-- none of those before it has its number
pub none_before : (front : List Numbered) (e : Numbered) (es : List Numbered) → Rises (front ++ e ∷ es)
    → find nat_cmp e.0 front ≡ None
none_before [] e es h = refl
none_before (f ∷ fs) e es h =
    ap (λ b. cond b (Some f.1) (find nat_cmp e.0 fs)) (passed_over f e fs es h)
    ∙ none_before fs e es (rest_holds (below_all nat_cmp f.0 (fs ++ e ∷ es)) (is_sorted nat_cmp (fs ++ e ∷ es)) h)

pub found_there : (front : List Numbered) (e : Numbered) (es : List Numbered) → Rises (front ++ e ∷ es)
    → find nat_cmp e.0 (front ++ e ∷ es) ≡ Some e.1
found_there [] e es h = ap (λ b. cond b (Some e.1) (find nat_cmp e.0 es)) (itself e.0)
found_there (f ∷ fs) e es h =
    ap (λ b. cond b (Some f.1) (find nat_cmp e.0 (fs ++ e ∷ es))) (passed_over f e fs es h)
    ∙ found_there fs e es (rest_holds (below_all nat_cmp f.0 (fs ++ e ∷ es)) (is_sorted nat_cmp (fs ++ e ∷ es)) h)
