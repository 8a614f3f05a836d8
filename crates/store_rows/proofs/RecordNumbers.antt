-- The numbers of the records, from the rows of `record`: two ascending lists with the same members are one.
use Rattle.std.proofs.Common.{
  ◌≡◌,
  ◌<◌,
  ◌++◌,
  ◌&&◌,
  ◌==◌,
  ℕ,
  Bool,
  true,
  false,
  List,
  [],
  ◌∷◌,
  map,
  filter,
  cond,
  refl,
  sym,
  ap,
  ◌∙◌,
  arith,
  Less,
}
use Rattle.std.specs.Prelude.{Option, Some, None, T, is_some}
use Rattle.std.specs.List.{list_any, AllByRecursion}
use Rattle.std.specs.List.Sorted.{IsStrictlySortedBy}
use Rattle.std.specs.FinMap.{
  contains_key-keys,
  entries,
  entries_sorted,
  get,
  is_sorted,
  keys,
  nat_cmp-IsAntisymmetric,
}
use Rattle.std.specs.FinMap.Entries.{below_all}
use Rattle.std.specs.Ordering.{nat_cmp, is_lt}
use Rattle.std.specs.Cmp.{nat_cmp_total}
use Rattle.std.proofs.lemmas.Bool.Decides.{nat_tests}
use Rattle.std.proofs.lemmas.List.{map-append}
use Rattle.std.proofs.lemmas.List.Elements.{filter-append}
use Rattle.std.proofs.lemmas.Map.Lookups.{btree_set_from_contains}
use Rattle.sqlite.specs.Tree.{IsAscending}
use Rattle.record_kinds.specs.declared.record.Record.{Record}
use Rattle.archive_state.specs.Content.{Content}
use Rattle.archive_state.proofs.Rising.{less_is}
use Rattle.store_tables.specs.Reading.{read_record}
use Rattle.store_tables.specs.Rows.{Rows, RecordRow}
use Rattle.store_rows.specs.Grouped.{numbers_by}
use Rattle.store_rows.specs.Meaning.{IsRecordAt, Means, has_record, is_closed}
use Rattle.store_rows.proofs.Ascending.{as_set, has_it}
use Rattle.store_rows.proofs.Naming.{and_swap}
use Rattle.list_laws.proofs.Booleans.{first_holds, rest_holds}
use Rattle.list_laws.proofs.Lists.{any_alike, any_kept, any_mapped}

-- one row more
pub numbers_more : (closed : ℕ → Bool) (rows : List (ℕ × ℕ)) (r : ℕ × ℕ)
    → numbers_by closed (rows ++ r ∷ []) ≡ numbers_by closed rows ++ cond (closed r.1) (r.0 ∷ []) []
numbers_more closed rows r =
    ap (map (λ (x : ℕ × ℕ). x.0)) (filter-append (λ (x : ℕ × ℕ). closed x.1) rows (r ∷ []))
    ∙ map-append (λ (x : ℕ × ℕ). x.0) (filter (λ (x : ℕ × ℕ). closed x.1) rows)
    (filter (λ (x : ℕ × ℕ). closed x.1) (r ∷ []))
    ∙ ap (λ ns. numbers_by closed rows ++ ns) (one (closed r.1))
  where
    one : (b : Bool) → map (λ (x : ℕ × ℕ). x.0) (cond b (r ∷ []) []) ≡ cond b (r.0 ∷ []) []
    one true = refl
    one false = refl

-- ---- both lists ascend
above : (n m : ℕ) → n < m → nat_cmp n m ≡ Less
above n m less = grind (arith, nat_tests, less)

all_above : (closed : ℕ → Bool) (n : ℕ) (rs : List RecordRow) → AllByRecursion (λ (r : RecordRow). n < r.no) rs
    → AllByRecursion (λ k. nat_cmp n k ≡ Less) (numbers_by closed (map read_record rs))
all_above closed n [] h = tt
all_above closed n (r ∷ rs) h =
    elim (closed r.batch) as (λ b. AllByRecursion (λ k. nat_cmp n k ≡ Less) (map (λ (x : ℕ × ℕ). x.0)
    (cond b (read_record r ∷ filter (λ (x : ℕ × ℕ). closed x.1) (map read_record rs))
    (filter (λ (x : ℕ × ℕ). closed x.1) (map read_record rs))))) [
      | true ↦ (above n r.no h.0, all_above closed n rs h.1)
      | false ↦ all_above closed n rs h.1
    ]

rows_rise : (closed : ℕ → Bool) (rs : List RecordRow) → IsAscending (λ (a b : RecordRow). a.no < b.no) rs
    → IsStrictlySortedBy nat_cmp (numbers_by closed (map read_record rs))
unfolding IsStrictlySortedBy
rows_rise closed [] h = tt
rows_rise closed (r ∷ rs) h =
    elim (closed r.batch) as (λ b. IsStrictlySortedBy nat_cmp (map (λ (x : ℕ × ℕ). x.0)
    (cond b (read_record r ∷ filter (λ (x : ℕ × ℕ). closed x.1) (map read_record rs))
    (filter (λ (x : ℕ × ℕ). closed x.1) (map read_record rs))))) [
      | true ↦ (all_above closed r.no rs h.0, rows_rise closed rs h.1)
      | false ↦ rows_rise closed rs h.1
    ]

keys_above : (n : ℕ) (es : List (ℕ × Record)) → T (below_all nat_cmp n es)
    → AllByRecursion (λ k. nat_cmp n k ≡ Less) (map (λ (e : ℕ × Record). e.0) es)
keys_above n [] h = tt
keys_above n (e ∷ es) h = (
  less_is (nat_cmp n e.0) (first_holds (is_lt (nat_cmp n e.0)) (below_all nat_cmp n es) h),
  keys_above n es (rest_holds (is_lt (nat_cmp n e.0)) (below_all nat_cmp n es) h),
)

keys_rise : (es : List (ℕ × Record)) → T (is_sorted nat_cmp es)
    → IsStrictlySortedBy nat_cmp (map (λ (e : ℕ × Record). e.0) es)
unfolding IsStrictlySortedBy
keys_rise [] h = tt
keys_rise (e ∷ es) h = (
  keys_above e.0 es (first_holds (below_all nat_cmp e.0 es) (is_sorted nat_cmp es) h),
  keys_rise es (rest_holds (below_all nat_cmp e.0 es) (is_sorted nat_cmp es) h),
)

-- ---- both have the same members
recorded : (rows : Rows) (n : ℕ) (o : Option Record) → IsRecordAt rows n o → has_record n rows ≡ is_some o
recorded rows n None h = h
recorded rows n (Some r) h = h.0

has_row : (rows : Rows) (closed : ℕ → Bool) → ((n : ℕ) → closed n ≡ is_closed n rows.batches) → (q : ℕ)
    → list_any (λ k. k == q) (numbers_by closed (map read_record rows.records)) ≡ has_record q rows
has_row rows closed is q =
    any_mapped (λ k. k == q) (λ (x : ℕ × ℕ). x.0) (filter (λ (x : ℕ × ℕ). closed x.1) (map read_record rows.records))
    ∙ sym (any_kept (λ (x : ℕ × ℕ). closed x.1) (λ (x : ℕ × ℕ). x.0 == q) (map read_record rows.records))
    ∙ any_mapped (λ (x : ℕ × ℕ). closed x.1 && (x.0 == q)) read_record rows.records
    ∙ any_alike (λ (r : RecordRow). closed r.batch && (r.no == q))
    (λ (r : RecordRow). (r.no == q) && is_closed r.batch rows.batches)
    (λ r. and_swap (closed r.batch) (r.no == q) ∙ ap (λ b. (r.no == q) && b) (is r.batch)) rows.records

pub same_numbers : (rows : Rows) (c : Content) (closed : ℕ → Bool) → Means rows c
    → IsAscending (λ (a b : RecordRow). a.no < b.no) rows.records
    → ((n : ℕ) → closed n ≡ is_closed n rows.batches)
    → numbers_by closed (map read_record rows.records) ≡ keys c.records
same_numbers rows c closed means rise is =
    let kept = numbers_by closed (map read_record rows.records) in
    btree_set_from_contains nat_cmp_total (as_set kept) (as_set (keys c.records))
    (rows_rise closed rows.records rise) (keys_rise (entries c.records) (entries_sorted c.records))
    (λ q. has_it kept q ∙ has_row rows closed is q ∙ recorded rows q (get c.records q) (means.records q)
    ∙ contains_key-keys c.records q)
    nat_cmp-IsAntisymmetric
