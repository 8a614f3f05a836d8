-- What the queries of one number or one token answer.
use Rattle.std.proofs.Common.{
  ◌≡◌,
  ℕ,
  ℤ,
  nat_cmp,
  ◌==◌,
  ◌&&◌,
  pos,
  Bool,
  true,
  List,
  [],
  ◌∷◌,
  map,
  filter,
  Some,
  refl,
  ap,
  ap₂,
  ◌∙◌,
  Less,
  Equal,
  inl,
  inr,
  length,
  ◌≤◌,
  ◌<◌,
  arith,
  bytes_eq,
}
use Rattle.std.specs.Ordering.{ordering_then, is_eq}
use Rattle.std.specs.List.{list_all}
use Rattle.std.proofs.lemmas.Map.Text.{is_eq-slice_cmp}
use Rattle.sqlite.specs.declared.types.Value.TheVariants.{Null, Int, Text}
use Rattle.sqlite.specs.Order.{Row, value_cmp}
use Rattle.sqlite.specs.Ops.{is_true, from_truth, binary}
use Rattle.sqlite.specs.Term.{Term, col, holds, eval_all}
use Rattle.sqlite.specs.Query.{output, output_cmp, IsAnswer}
use Rattle.sqlite.specs.Tree.{IsAscending, Trees, rowid}
use Rattle.sqlite.specs.Program.{overlay}
use Rattle.sqlite.specs.State.{State, Shown}
use Rattle.sqlite.proofs.Callers.{reads_as}
use Rattle.sqlite_value.proofs.OrderLemmas.{value_cmp-Text}
use Rattle.store_tables.specs.Rows.{
  Rows,
  BatchRow,
  RecordRow,
  ReceiptRow,
  SlipRow,
  Holds,
  Keeps,
  batch_values,
  record_values,
  receipt_values,
  slip_values,
}
use Rattle.store_tables.specs.Schema.{archive_schema}
use Rattle.store_tables.specs.Shown.{shown_batch, shown_record, shown_receipt, shown_slip}
use Rattle.store_tables.proofs.Changing.{at_key}
use Rattle.store_tables.proofs.Coded.{int_order, less, same_int, still_ascends}
use Rattle.store_tables.proofs.Finding.{simple, in_order}
use Rattle.store_tables.proofs.Queries.{ascending_weaker}
use Rattle.store_tables.proofs.Statements.{truth_of}
use Rattle.store_tables.proofs.Texts.{with_key, by_key}
use Rattle.store_tables.proofs.KeyedTexts.{
  batch_at,
  batch_at_is,
  batch_at_plain,
  batch_at_unlisted,
  record_at,
  record_at_is,
  record_at_plain,
  record_at_unlisted,
  receipts_at,
  receipts_at_is,
  receipts_at_plain,
  receipts_at_unlisted,
  slip_at,
  slip_at_is,
  slip_at_plain,
  slip_at_unlisted,
}

-- the rows of a table that pass the tests, in the order of its key
module _ (at : ℕ → ℤ) (order : (m n : ℕ) → value_cmp (Int (at m)) (Int (at n)) ≡ nat_cmp m n) {X : Type 0}
    (enc : X → Row) (key : X → ℕ) (keyed : (x : X) → rowid (enc x) ≡ Int (at (key x))) (params : Row)
    (tests : List Term) (q : X → Bool)
    (passes : (x : X) → list_all (holds (params ∷ enc x ∷ [])) tests ≡ q x) where
  pub found_by_order : (tree : ℕ) (project : List Term) (db : Trees) (xs : List X) (rows : List Row)
      → Keeps enc key xs (db tree) → IsAnswer (simple tree tests project by_key) db params rows
      → rows ≡ map (λ x. eval_all project (params ∷ enc x ∷ [])) (filter q xs)
  found_by_order tree project db xs rows was answer =
      let it = simple tree tests project by_key in
      let rise = ascending_weaker _ (λ (x y : X). output_cmp it (output it (params ∷ enc x ∷ []))
      (output it (params ∷ enc y ∷ [])) ≡ Less)
      (λ x y low. ap (λ o. ordering_then o Equal) (ap₂ value_cmp (keyed x) (keyed y) ∙ order (key x) (key y)
      ∙ less (key x) (key y) low)) (filter q xs) (still_ascends _ q xs was.rise) in
      in_order enc params tests q passes tree project by_key db xs rows was.is rise answer

-- the same where the keys are numbers
module _ {X : Type 0} (enc : X → Row) (key : X → ℕ) (keyed : (x : X) → rowid (enc x) ≡ Int (pos (key x))) (params : Row)
    (tests : List Term) (q : X → Bool)
    (passes : (x : X) → list_all (holds (params ∷ enc x ∷ [])) tests ≡ q x) where
  pub found_in_order : (tree : ℕ) (project : List Term) (db : Trees) (xs : List X) (rows : List Row)
      → Keeps enc key xs (db tree) → IsAnswer (simple tree tests project by_key) db params rows
      → rows ≡ map (λ x. eval_all project (params ∷ enc x ∷ [])) (filter q xs)
  found_in_order = found_by_order pos int_order enc key keyed params tests q passes

-- no more than one row has a key
pub one_at_most : {X : Type 0} (key : X → ℕ) (n : ℕ) (xs : List X) → IsAscending (λ a b. key a < key b) xs
    → length (filter (λ x. key x == n) xs) ≤ 1
one_at_most key n xs rise = elim (at_key key n xs rise) [
  | inl none ↦ let e : length (filter (λ x. key x == n) xs) ≡ 0 = ap length none in omega (arith, e)
  | inr one ↦ let e : length (filter (λ x. key x == n) xs) ≡ 1 = ap length one.1 in omega (arith, e)
]

-- ---- what each row's test says

pub same_text : (s t : List ℕ) → is_eq (value_cmp (Text s) (Text t)) ≡ bytes_eq s t
same_text s t = ap is_eq (value_cmp-Text s t) ∙ is_eq-slice_cmp s t

batch_passes : (n : ℕ) (x : BatchRow) → list_all (holds ((Int (pos n) ∷ []) ∷ batch_values x ∷ []))
    (with_key 0) ≡ (x.no == n)
unfolding binary
batch_passes n x = ap (λ b. is_true (from_truth (Some b)) && true) (same_int x.no n) ∙ truth_of (x.no == n)

record_passes : (n : ℕ) (x : RecordRow) → list_all (holds ((Int (pos n) ∷ []) ∷ record_values x ∷ []))
    (with_key 0) ≡ (x.no == n)
unfolding binary
record_passes n x = ap (λ b. is_true (from_truth (Some b)) && true) (same_int x.no n) ∙ truth_of (x.no == n)

receipt_passes : (token : List ℕ) (x : ReceiptRow) → list_all (holds ((Text token ∷ []) ∷ receipt_values x ∷ []))
    (with_key 2) ≡ bytes_eq x.token token
unfolding binary
receipt_passes token x = ap (λ b. is_true (from_truth (Some b)) && true) (same_text x.token token)
    ∙ truth_of (bytes_eq x.token token)

slip_passes : (n : ℕ) (x : SlipRow) → list_all (holds ((Int (pos n) ∷ []) ∷ slip_values x ∷ []))
    (with_key 0) ≡ (x.no == n)
unfolding binary
slip_passes n x = ap (λ b. is_true (from_truth (Some b)) && true) (same_int x.no n) ∙ truth_of (x.no == n)

-- ---- the queries

pub reads_batch : (old new : State) (n : ℕ) (read : List Row) (rows : Rows)
    → old.now.schema ≡ archive_schema rows.has_spans
    → Holds rows old.now.trees → Shown batch_at (Int (pos n) ∷ []) old new read
    → read ≡ map shown_batch (filter (λ (x : BatchRow). x.no == n) rows.batches)
reads_batch old new n read rows has was h =
    let reads = reads_as batch_at (Int (pos n) ∷ []) old new (archive_schema rows.has_spans) has _
    (batch_at_is rows.has_spans) (batch_at_plain rows.has_spans)
    (batch_at_unlisted rows.has_spans) read h in
    found_in_order batch_values (λ (x : BatchRow). x.no) (λ _. refl) (Int (pos n) ∷ []) (with_key 0)
    (λ (x : BatchRow). x.no == n) (batch_passes n) 1 (col 1 0 ∷ col 1 2 ∷ []) (overlay old.now.trees [])
    rows.batches read was.batches (reads.answer Null)

pub reads_record : (old new : State) (n : ℕ) (read : List Row) (rows : Rows)
    → old.now.schema ≡ archive_schema rows.has_spans
    → Holds rows old.now.trees → Shown record_at (Int (pos n) ∷ []) old new read
    → read ≡ map shown_record (filter (λ (x : RecordRow). x.no == n) rows.records)
reads_record old new n read rows has was h =
    let reads = reads_as record_at (Int (pos n) ∷ []) old new (archive_schema rows.has_spans) has _
    (record_at_is rows.has_spans) (record_at_plain rows.has_spans)
    (record_at_unlisted rows.has_spans) read h in
    found_in_order record_values (λ (x : RecordRow). x.no) (λ _. refl) (Int (pos n) ∷ []) (with_key 0)
    (λ (x : RecordRow). x.no == n) (record_passes n) 2 (col 1 0 ∷ col 1 3 ∷ []) (overlay old.now.trees [])
    rows.records read was.records (reads.answer Null)

pub reads_receipts_at : (old new : State) (token : List ℕ) (read : List Row) (rows : Rows)
    → old.now.schema ≡ archive_schema rows.has_spans → Holds rows old.now.trees
    → Shown receipts_at (Text token ∷ []) old new read
    → read ≡ map shown_receipt (filter (λ (x : ReceiptRow). bytes_eq x.token token) rows.receipts)
reads_receipts_at old new token read rows has was h =
    let reads = reads_as receipts_at (Text token ∷ []) old new (archive_schema rows.has_spans) has _
    (receipts_at_is rows.has_spans) (receipts_at_plain rows.has_spans)
    (receipts_at_unlisted rows.has_spans) read h in
    found_in_order receipt_values (λ (x : ReceiptRow). x.id) (λ _. refl) (Text token ∷ []) (with_key 2)
    (λ (x : ReceiptRow). bytes_eq x.token token) (receipt_passes token) 4
    (col 1 2 ∷ col 1 3 ∷ col 1 4 ∷ col 1 5 ∷ []) (overlay old.now.trees []) rows.receipts read was.receipts
    (reads.answer Null)

pub reads_slip : (old new : State) (n : ℕ) (read : List Row) (rows : Rows)
    → old.now.schema ≡ archive_schema rows.has_spans
    → Holds rows old.now.trees → Shown slip_at (Int (pos n) ∷ []) old new read
    → read ≡ map shown_slip (filter (λ (x : SlipRow). x.no == n) rows.slips)
reads_slip old new n read rows has was h =
    let reads = reads_as slip_at (Int (pos n) ∷ []) old new (archive_schema rows.has_spans) has _
    (slip_at_is rows.has_spans) (slip_at_plain rows.has_spans)
    (slip_at_unlisted rows.has_spans) read h in
    found_in_order slip_values (λ (x : SlipRow). x.no) (λ _. refl) (Int (pos n) ∷ []) (with_key 0)
    (λ (x : SlipRow). x.no == n) (slip_passes n) 5 (col 1 0 ∷ col 1 2 ∷ col 1 3 ∷ col 1 4 ∷ [])
    (overlay old.now.trees []) rows.slips read was.slips (reads.answer Null)
