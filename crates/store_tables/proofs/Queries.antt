-- What the queries answer.
use Rattle.std.proofs.Common.{
  ◌≡◌,
  ℕ,
  pos,
  List,
  [],
  ◌∷◌,
  map,
  length,
  refl,
  sym,
  ap,
  ap₂,
  true,
  subst,
  ◌∙◌,
  Less,
  Equal,
  Bool,
}
use Rattle.std.specs.Ordering.{ordering_then}
use Rattle.std.specs.List.{AllByRecursion}
use Rattle.std.proofs.lemmas.List.{length-map}
use Rattle.sqlite.specs.declared.types.Value.TheVariants.{Null, Int}
use Rattle.sqlite.specs.Order.{Row, value_cmp}
use Rattle.sqlite.specs.Term.{Term, col, eval_all}
use Rattle.sqlite.specs.Query.{output, output_cmp, IsAnswer}
use Rattle.sqlite.specs.Tree.{IsAscending, Trees, rowid}
use Rattle.sqlite.specs.Program.{overlay}
use Rattle.sqlite.specs.Effect.{Database}
use Rattle.sqlite.specs.Listing.{understood}
use Rattle.sqlite.specs.State.{State, Shown, ShowsRows, IsUnchanged}
use Rattle.sqlite.specs.Clock.{timed}
use Rattle.sqlite.proofs.Callers.{IsPlain, reads_as, one_permutation}
use Rattle.store_tables.specs.Calls.{Settled, Good}
use Rattle.store_tables.specs.Rows.{
  Rows,
  BatchRow,
  RecordRow,
  ReceiptRow,
  SlipRow,
  Holds,
  Keeps,
  meta_values,
  batch_values,
  record_values,
  receipt_values,
  slip_values,
}
use Rattle.store_tables.specs.Schema.{archive_schema}
use Rattle.store_tables.specs.Shown.{
  shown_meta,
  shown_batch,
  shown_record,
  shown_receipt,
  shown_slip,
}
use Rattle.store_tables.proofs.Coded.{int_order, less}
use Rattle.store_tables.proofs.Finding.{simple, in_order, answered}
use Rattle.store_tables.proofs.Texts.{
  by_key,
  select_meta,
  select_meta_is,
  select_meta_plain,
  select_meta_unlisted,
  select_batches,
  select_batches_is,
  select_batches_plain,
  select_batches_unlisted,
  select_records,
  select_records_is,
  select_records_plain,
  select_records_unlisted,
  select_receipts,
  select_receipts_is,
  select_receipts_plain,
  select_receipts_unlisted,
  receipt_keys,
  receipt_keys_is,
  receipt_keys_plain,
  receipt_keys_unlisted,
  select_slips,
  select_slips_is,
  select_slips_plain,
  select_slips_unlisted,
}
use Rattle.list_laws.proofs.Lists.{filter_all}

-- a plain query leaves the connection as it was
pub unchanged_by : (sql : List ℕ) (params : Row) (old new : State) (rows : List Row)
    → IsPlain (understood old.now.schema sql) → Shown sql params old new rows → IsUnchanged old new
unfolding Shown
unchanged_by sql params old new rows plain h =
    let none = (subst IsPlain h.1.is plain).0 in
    (subst (ShowsRows old new sql h.0 (timed params h.0.formats h.1.now) rows) none h.2).3

pub all_weaker : {X : Type 0} (P Q : X → Type 0) → ((y : X) → P y → Q y) → (ys : List X) → AllByRecursion P ys
    → AllByRecursion Q ys
all_weaker P Q g [] k = tt
all_weaker P Q g (y ∷ ys) k = (g y k.0, all_weaker P Q g ys k.1)

pub ascending_weaker : {X : Type 0} (R T : X → X → Type 0) → ((x y : X) → R x y → T x y) → (xs : List X)
    → IsAscending R xs → IsAscending T xs
ascending_weaker R T f [] h = tt
ascending_weaker R T f (x ∷ xs) h = (all_weaker (R x) (T x) (f x) xs h.0, ascending_weaker R T f xs h.1)

-- all rows of a table, in the order of its key
module _ {X : Type 0} (enc : X → Row) (key : X → ℕ) (keyed : (x : X) → rowid (enc x) ≡ Int (pos (key x))) where
  pub all_in_order : (tree : ℕ) (project : List Term) (db : Trees) (xs : List X) (rows : List Row)
      → Keeps enc key xs (db tree) → IsAnswer (simple tree [] project by_key) db [] rows
      → rows ≡ map (λ x. eval_all project ([] ∷ enc x ∷ [])) xs
  all_in_order tree project db xs rows was answer =
      let it = simple tree [] project by_key in
      let rise = ascending_weaker _ (λ (x y : X). output_cmp it (output it ([] ∷ enc x ∷ []))
      (output it ([] ∷ enc y ∷ [])) ≡ Less)
      (λ x y low. ap (λ o. ordering_then o Equal) (ap₂ value_cmp (keyed x) (keyed y) ∙ int_order (key x) (key y)
      ∙ less (key x) (key y) low)) xs was.rise in
      in_order enc [] [] (λ _. true) (λ _. refl) tree project by_key db xs rows was.is
      (subst (IsAscending (λ (x y : X). output_cmp it (output it ([] ∷ enc x ∷ [])) (output it ([] ∷ enc y ∷ []))
      ≡ Less)) (sym (filter_all xs)) rise) answer
      ∙ ap (map (λ x. eval_all project ([] ∷ enc x ∷ []))) (filter_all xs)

pub reads_meta : (old new : State) (read : List Row) (rows : Rows) → old.now.schema ≡ archive_schema rows.has_spans
    → Holds rows old.now.trees → Shown select_meta [] old new read → read ≡ shown_meta rows ∷ []
reads_meta old new read rows has was h =
    let reads = reads_as select_meta [] old new (archive_schema rows.has_spans) has _ (select_meta_is rows.has_spans)
    (select_meta_plain rows.has_spans)
    (select_meta_unlisted rows.has_spans) read h in
    one_permutation _ read (answered meta_values [] [] (λ _. true) (λ _. refl) 0 (col 1 2 ∷ col 1 3 ∷ col 1 4 ∷ []) []
    (overlay old.now.trees []) (rows ∷ []) read was.meta (reads.answer Null))

pub reads_batches : (old new : State) (read : List Row) (rows : Rows) → old.now.schema ≡ archive_schema rows.has_spans
    → Holds rows old.now.trees → Shown select_batches [] old new read → read ≡ map shown_batch rows.batches
reads_batches old new read rows has was h =
    let reads = reads_as select_batches [] old new (archive_schema rows.has_spans) has _
    (select_batches_is rows.has_spans) (select_batches_plain rows.has_spans)
    (select_batches_unlisted rows.has_spans) read h in
    all_in_order batch_values (λ (x : BatchRow). x.no) (λ _. refl) 1 (col 1 0 ∷ col 1 2 ∷ [])
    (overlay old.now.trees []) rows.batches read was.batches (reads.answer Null)

pub reads_records : (old new : State) (read : List Row) (rows : Rows) → old.now.schema ≡ archive_schema rows.has_spans
    → Holds rows old.now.trees → Shown select_records [] old new read → read ≡ map shown_record rows.records
reads_records old new read rows has was h =
    let reads = reads_as select_records [] old new (archive_schema rows.has_spans) has _
    (select_records_is rows.has_spans) (select_records_plain rows.has_spans)
    (select_records_unlisted rows.has_spans) read h in
    all_in_order record_values (λ (x : RecordRow). x.no) (λ _. refl) 2 (col 1 0 ∷ col 1 3 ∷ [])
    (overlay old.now.trees []) rows.records read was.records (reads.answer Null)

pub reads_receipts : (old new : State) (read : List Row) (rows : Rows) → old.now.schema ≡ archive_schema rows.has_spans
    → Holds rows old.now.trees → Shown select_receipts [] old new read → read ≡ map shown_receipt rows.receipts
reads_receipts old new read rows has was h =
    let reads = reads_as select_receipts [] old new (archive_schema rows.has_spans) has _
    (select_receipts_is rows.has_spans) (select_receipts_plain rows.has_spans)
    (select_receipts_unlisted rows.has_spans) read h in
    all_in_order receipt_values (λ (x : ReceiptRow). x.id) (λ _. refl) 4 (col 1 2 ∷ col 1 3 ∷ col 1 4 ∷ col 1 5 ∷ [])
    (overlay old.now.trees []) rows.receipts read was.receipts (reads.answer Null)

pub counts_receipts : (old new : State) (read : List Row) (rows : Rows) → old.now.schema ≡ archive_schema rows.has_spans
    → Holds rows old.now.trees → Shown receipt_keys [] old new read → length read ≡ length rows.receipts
counts_receipts old new read rows has was h =
    let reads = reads_as receipt_keys [] old new (archive_schema rows.has_spans) has _
    (receipt_keys_is rows.has_spans) (receipt_keys_plain rows.has_spans)
    (receipt_keys_unlisted rows.has_spans) read h in
    ap length (all_in_order receipt_values (λ (x : ReceiptRow). x.id) (λ _. refl) 4 (col 1 0 ∷ [])
    (overlay old.now.trees []) rows.receipts read was.receipts (reads.answer Null)) ∙ length-map _ _

pub reads_slips : (old new : State) (read : List Row) (rows : Rows) → old.now.schema ≡ archive_schema rows.has_spans
    → Holds rows old.now.trees → Shown select_slips [] old new read → read ≡ map shown_slip rows.slips
reads_slips old new read rows has was h =
    let reads = reads_as select_slips [] old new (archive_schema rows.has_spans) has _ (select_slips_is rows.has_spans)
    (select_slips_plain rows.has_spans)
    (select_slips_unlisted rows.has_spans) read h in
    all_in_order slip_values (λ (x : SlipRow). x.no) (λ _. refl) 5 (col 1 0 ∷ col 1 2 ∷ col 1 3 ∷ col 1 4 ∷ [])
    (overlay old.now.trees []) rows.slips read was.slips (reads.answer Null)

-- a settled connection that is seen unchanged is settled
pub still_settled : (old new : State) (rows : Rows) → IsUnchanged old new → Settled old rows → Settled new rows
still_settled old new rows same was = record {
  is_open = same.0.is_open;
  autocommit = same.0.mode ∙ was.autocommit;
  settled = same.0.committed_is ∙ was.settled ∙ sym same.0.now_is;
  schema = ap (λ (d : Database). d.schema) same.0.now_is ∙ was.schema;
  good = subst (λ (d : Database). Good rows d.trees) (sym same.0.now_is) was.good;
}

-- what a crash may leave of a settled connection is good, where a law of the store says that it is what was committed
pub only_committed : (old : State) (c : Rows) (t : Trees) → Settled old c → t ≡ old.committed.trees → Good c t
only_committed old c t was is = subst (Good c) (sym (is ∙ ap (λ (d : Database). d.trees) was.settled)) was.good

-- a text that is plain under each schema of an archive
pub plain_under : (sql : List ℕ) (old : State) → ((b : Bool) → IsPlain (understood (archive_schema b) sql)) → (b : Bool)
    → old.now.schema ≡ archive_schema b → IsPlain (understood old.now.schema sql)
plain_under sql old plain b has = subst (λ s. IsPlain (understood s sql)) (sym has) (plain b)
