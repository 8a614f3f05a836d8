-- What the queries of one batch answer.
use Rattle.std.proofs.Common.{
  ◌≡◌,
  ℕ,
  ◌==◌,
  ◌&&◌,
  pos,
  true,
  false,
  inl,
  inr,
  List,
  [],
  ◌∷◌,
  map,
  filter,
  length,
  Some,
  None,
  refl,
  ap,
  subst,
  ◌∙◌,
  arith,
}
use Rattle.std.specs.List.{list_all, AllByRecursion}
use Rattle.std.proofs.lemmas.Bool.{cases_Bool}
use Rattle.std.proofs.lemmas.List.{length-map}
use Rattle.sqlite.specs.declared.types.Value.TheVariants.{Null, Int}
use Rattle.sqlite.specs.Order.{Row}
use Rattle.sqlite.specs.Ops.{is_true, from_truth, binary}
use Rattle.sqlite.specs.Term.{col, holds}
use Rattle.sqlite.specs.Program.{overlay}
use Rattle.sqlite.specs.State.{State, Shown}
use Rattle.sqlite.proofs.Callers.{reads_as}
use Rattle.store_tables.specs.Reading.{IsU32, AreTyped}
use Rattle.store_tables.specs.Rows.{
  Rows,
  RecordRow,
  LineRow,
  PackRow,
  Holds,
  HoldsOwn,
  record_values,
  line_values,
  pack_values,
}
use Rattle.store_tables.specs.Batches.{count_of_lines}
use Rattle.store_tables.specs.Schema.{archive_schema}
use Rattle.store_tables.proofs.BatchTexts.{
  numbers_in,
  numbers_in_is,
  numbers_in_plain,
  numbers_in_unlisted,
  own_lines,
  own_lines_is,
  own_lines_plain,
  own_lines_unlisted,
}
use Rattle.store_tables.proofs.Coded.{same_int, kept_by}
use Rattle.store_tables.proofs.KeyedQueries.{found_in_order}
use Rattle.store_tables.proofs.LaterStatements.{own_of}
use Rattle.store_tables.proofs.Statements.{truth_of}
use Rattle.store_tables.proofs.Texts.{with_key}

-- a number is read as that of a line
abbrev pub as_line : RecordRow → LineRow
as_line r = record { id = 0; no = r.no; at = 0; line = (0, record { tag = []; text = None; target = None }) }

lines_typed : (rs : List RecordRow) → AllByRecursion (λ (r : RecordRow). IsU32 r.no × IsU32 r.batch) rs
    → AllByRecursion (λ (l : LineRow). IsU32 l.no) (map as_line rs)
lines_typed [] h = tt
lines_typed (r ∷ rs) h = (h.0.0, lines_typed rs h.1)

pub typed_numbers : (n : ℕ) (rows : Rows) → AreTyped rows
    → AllByRecursion (λ (l : LineRow). IsU32 l.no)
    (map as_line (filter (λ (r : RecordRow). r.batch == n) rows.records))
typed_numbers n rows t = lines_typed (filter (λ (r : RecordRow). r.batch == n) rows.records)
    (kept_by _ _ rows.records t.records)

in_batch : (n : ℕ) (x : RecordRow) → list_all (holds ((Int (pos n) ∷ []) ∷ record_values x ∷ [])) (with_key 3)
    ≡ (x.batch == n)
unfolding binary
in_batch n x = ap (λ b. is_true (from_truth (Some b)) && true) (same_int x.batch n) ∙ truth_of (x.batch == n)

is_own : (n : ℕ) (x : LineRow) → list_all (holds ((Int (pos n) ∷ []) ∷ line_values x ∷ [])) (with_key 2)
    ≡ (x.no == n)
unfolding binary
is_own n x = ap (λ b. is_true (from_truth (Some b)) && true) (same_int x.no n) ∙ truth_of (x.no == n)

is_packed : (n : ℕ) (x : PackRow) → list_all (holds ((Int (pos n) ∷ []) ∷ pack_values x ∷ [])) (with_key 0)
    ≡ (x.no == n)
unfolding binary
is_packed n x = ap (λ b. is_true (from_truth (Some b)) && true) (same_int x.no n) ∙ truth_of (x.no == n)

pub reads_numbers_in : (old new : State) (n : ℕ) (read : List Row) (rows : Rows)
    → old.now.schema ≡ archive_schema rows.has_spans
    → Holds rows old.now.trees → Shown numbers_in (Int (pos n) ∷ []) old new read
    → read ≡ map (λ (r : RecordRow). Int (pos r.no) ∷ []) (filter (λ (r : RecordRow). r.batch == n) rows.records)
reads_numbers_in old new n read rows has was h =
    let reads = reads_as numbers_in (Int (pos n) ∷ []) old new (archive_schema rows.has_spans) has _
    (numbers_in_is rows.has_spans) (numbers_in_plain rows.has_spans)
    (numbers_in_unlisted rows.has_spans) read h in
    found_in_order record_values (λ (r : RecordRow). r.no) (λ _. refl) (Int (pos n) ∷ []) (with_key 3)
    (λ (r : RecordRow). r.batch == n) (in_batch n) 2 (col 1 0 ∷ []) (overlay old.now.trees []) rows.records
    read was.records (reads.answer Null)

-- in the first schema a number has a row for each of its lines, and no other
first_own : (old new : State) (n : ℕ) (read : List Row) (rows : Rows) → rows.has_spans ≡ false
    → old.now.schema ≡ archive_schema false
    → Holds rows old.now.trees → Shown own_lines (Int (pos n) ∷ []) old new read → length read ≡ count_of_lines n rows
first_own old new n read rows first has was h =
    let own = subst (λ b. HoldsOwn b rows.lines rows.packs rows.spans rows.links rows.soughts old.now.trees)
    first was.own
    in
    let reads = reads_as own_lines (Int (pos n) ∷ []) old new (archive_schema false) has _ (own_lines_is false)
    (own_lines_plain false) (own_lines_unlisted false) read h in
    let all = found_in_order line_values (λ (l : LineRow). l.id) (λ _. refl) (Int (pos n) ∷ []) (with_key 2)
    (λ (l : LineRow). l.no == n) (is_own n) 3 (col 1 2 ∷ []) (overlay old.now.trees []) rows.lines read own.0
    (reads.answer Null) in
    let none : length (filter (λ (p : PackRow). p.no == n) rows.packs) ≡ 0 =
    ap (λ ps. length (filter (λ (p : PackRow). p.no == n) ps)) own.1 in
    let count : length read ≡ length (filter (λ (l : LineRow). l.no == n) rows.lines) = ap length all
    ∙ length-map _ _ in
    omega (arith, none, count)

-- in the second one row with all its lines
second_own : (old new : State) (n : ℕ) (read : List Row) (rows : Rows) → rows.has_spans ≡ true
    → old.now.schema ≡ archive_schema true
    → Holds rows old.now.trees → Shown own_lines (Int (pos n) ∷ []) old new read → length read ≡ count_of_lines n rows
second_own old new n read rows second has was h =
    let own = own_of rows old.now.trees second was in
    let reads = reads_as own_lines (Int (pos n) ∷ []) old new (archive_schema true) has _ (own_lines_is true)
    (own_lines_plain true) (own_lines_unlisted true) read h in
    let all = found_in_order pack_values (λ (p : PackRow). p.no) (λ _. refl) (Int (pos n) ∷ []) (with_key 0)
    (λ (p : PackRow). p.no == n) (is_packed n) 11 (col 1 0 ∷ []) (overlay old.now.trees []) rows.packs read
    own.1.packs_kept (reads.answer Null) in
    let none : length (filter (λ (l : LineRow). l.no == n) rows.lines) ≡ 0 =
    ap (λ ls. length (filter (λ (l : LineRow). l.no == n) ls)) own.0 in
    let count : length read ≡ length (filter (λ (p : PackRow). p.no == n) rows.packs) = ap length all
    ∙ length-map _ _ in
    omega (arith, none, count)

pub reads_own_lines : (old new : State) (n : ℕ) (read : List Row) (rows : Rows)
    → old.now.schema ≡ archive_schema rows.has_spans
    → Holds rows old.now.trees → Shown own_lines (Int (pos n) ∷ []) old new read → length read ≡ count_of_lines n rows
reads_own_lines old new n read rows has was h = elim (cases_Bool rows.has_spans) [
  | inl second ↦ second_own old new n read rows second (has ∙ ap archive_schema second) was h
  | inr first ↦ first_own old new n read rows first (has ∙ ap archive_schema first) was h
]
