-- What each statement makes of rows whose values are of their types has such values.
use Rattle.std.proofs.Common.{
  ℕ,
  ◌==◌,
  Bool,
  true,
  false,
  List,
  [],
  ◌∷◌,
  map,
  cond,
  Ordering,
  Less,
  Equal,
  Greater,
  nat_cmp,
}
use Rattle.std.specs.Ordering.{match_ordering}
use Rattle.std.specs.List.{AllByRecursion}
use Rattle.receipts.specs.Tokens.{IsToken}
use Rattle.receipts.specs.declared.answer.Receipt.{Receipt}
use Rattle.store_tables.specs.Reading.{AreTyped, IsU32, IsTypedReceipt, IsTypedSlip}
use Rattle.store_tables.specs.Rows.{
  Rows,
  BatchRow,
  RecordRow,
  SlipRow,
  put_by,
  with_batch,
  closed_at,
  with_closed,
  without_batch_row,
  without_lines_from,
  with_record_row,
  record_at,
  without_record_row,
  without_lines,
  with_receipt,
  with_next,
  with_slip_row,
  with_undone,
  undone_at,
}
use Rattle.store_tables.proofs.Coded.{kept_by}
use Rattle.list_laws.proofs.Lists.{all_then}

pub put_all : {X : Type 0} (P : X → Type 0) (key : X → ℕ) (p : X) (qs : List X) → P p → AllByRecursion P qs
    → AllByRecursion P (put_by key p qs)
put_all P key p [] h all = (h, tt)
put_all P key p (q ∷ qs) h all = go (nat_cmp (key q) (key p)) (put_all P key p qs h all.1)
  where
    go : (o : Ordering) → AllByRecursion P (put_by key p qs)
        → AllByRecursion P (match_ordering o (q ∷ put_by key p qs) (p ∷ qs) (p ∷ q ∷ qs))
    go Less more = (all.0, more)
    go Equal more = (h, all.1)
    go Greater more = (h, all)

pub typed_next : (n : ℕ) (rows : Rows) → AreTyped rows → AreTyped (with_next n rows)
typed_next n rows t = record {
  version = t.version;
  dated = t.dated;
  society = t.society;
  batches = t.batches;
  records = t.records;
  lines = t.lines;
  packs = t.packs;
  receipts = t.receipts;
  slips = t.slips;
  slip_lines = t.slip_lines;
  slip_packs = t.slip_packs;
  spans = t.spans;
  links = t.links;
  soughts = t.soughts;
}

pub typed_batch : (n : ℕ) (is_open : Bool) → IsU32 n → (rows : Rows) → AreTyped rows
    → AreTyped (with_batch n is_open rows)
typed_batch n is_open low rows t =
    record {
      version = t.version;
      dated = t.dated;
      society = t.society;
      batches = put_all _ (λ (b : BatchRow). b.no) _ rows.batches low t.batches;
      records = t.records;
      lines = t.lines;
      packs = t.packs;
      receipts = t.receipts;
      slips = t.slips;
      slip_lines = t.slip_lines;
      slip_packs = t.slip_packs;
      spans = t.spans;
      links = t.links;
      soughts = t.soughts;
    }

closed_all : (n : ℕ) (bs : List BatchRow) → AllByRecursion (λ (b : BatchRow). IsU32 b.no) bs
    → AllByRecursion (λ (b : BatchRow). IsU32 b.no) (map (closed_at n) bs)
closed_all n [] h = tt
closed_all n (b ∷ bs) h = (go (b.no == n), closed_all n bs h.1)
  where
    go : (is : Bool) → let it : BatchRow = cond is (record b { is_open = false }) b in IsU32 it.no
    go true = h.0
    go false = h.0

pub typed_closed : (n : ℕ) (rows : Rows) → AreTyped rows → AreTyped (with_closed n rows)
typed_closed n rows t = record {
  version = t.version;
  dated = t.dated;
  society = t.society;
  batches = closed_all n rows.batches t.batches;
  records = t.records;
  lines = t.lines;
  packs = t.packs;
  receipts = t.receipts;
  slips = t.slips;
  slip_lines = t.slip_lines;
  slip_packs = t.slip_packs;
  spans = t.spans;
  links = t.links;
  soughts = t.soughts;
}

pub typed_less_batch : (n : ℕ) (rows : Rows) → AreTyped rows → AreTyped (without_batch_row n rows)
typed_less_batch n rows t = record {
  version = t.version;
  dated = t.dated;
  society = t.society;
  batches = kept_by _ _ rows.batches t.batches;
  records = t.records;
  lines = t.lines;
  packs = t.packs;
  receipts = t.receipts;
  slips = t.slips;
  slip_lines = t.slip_lines;
  slip_packs = t.slip_packs;
  spans = t.spans;
  links = t.links;
  soughts = t.soughts;
}

pub typed_less_lines_from : (n at : ℕ) (rows : Rows) → AreTyped rows → AreTyped (without_lines_from n at rows)
typed_less_lines_from n at rows t = record {
  version = t.version;
  dated = t.dated;
  society = t.society;
  batches = t.batches;
  records = t.records;
  lines = kept_by _ _ rows.lines t.lines;
  packs = kept_by _ _ rows.packs t.packs;
  receipts = t.receipts;
  slips = t.slips;
  slip_lines = t.slip_lines;
  slip_packs = t.slip_packs;
  spans = t.spans;
  links = t.links;
  soughts = t.soughts;
}

pub typed_record : (n : ℕ) (kind : List ℕ) (batch : ℕ) → IsU32 n → IsU32 batch → (rows : Rows) → AreTyped rows
    → AreTyped (with_record_row n kind batch rows)
typed_record n kind batch low first rows t = record {
  version = t.version;
  dated = t.dated;
  society = t.society;
  batches = t.batches;
  records = put_all _ (λ (r : RecordRow). r.no) _ rows.records (low, first) t.records;
  lines = t.lines;
  packs = t.packs;
  receipts = t.receipts;
  slips = t.slips;
  slip_lines = t.slip_lines;
  slip_packs = t.slip_packs;
  spans = t.spans;
  links = t.links;
  soughts = t.soughts;
}

record_all : (n : ℕ) (kind : List ℕ) (batch : ℕ) → IsU32 batch → (rs : List RecordRow)
    → AllByRecursion (λ (r : RecordRow). IsU32 r.no × IsU32 r.batch) rs
    → AllByRecursion (λ (r : RecordRow). IsU32 r.no × IsU32 r.batch)
    (map (λ (r : RecordRow). cond (r.no == n) (record r { kind = kind; batch = batch }) r) rs)
record_all n kind batch low [] h = tt
record_all n kind batch low (r ∷ rs) h = (go (r.no == n), record_all n kind batch low rs h.1)
  where
    go : (b : Bool) → let it : RecordRow = cond b (record r { kind = kind; batch = batch }) r in
        IsU32 it.no × IsU32 it.batch
    go true = (h.0.0, low)
    go false = h.0

pub typed_record_at : (n : ℕ) (kind : List ℕ) (batch : ℕ) → IsU32 batch → (rows : Rows) → AreTyped rows
    → AreTyped (record_at n kind batch rows)
typed_record_at n kind batch low rows t = record {
  version = t.version;
  dated = t.dated;
  society = t.society;
  batches = t.batches;
  records = record_all n kind batch low rows.records t.records;
  lines = t.lines;
  packs = t.packs;
  receipts = t.receipts;
  slips = t.slips;
  slip_lines = t.slip_lines;
  slip_packs = t.slip_packs;
  spans = t.spans;
  links = t.links;
  soughts = t.soughts;
}

pub typed_less_record : (n : ℕ) (rows : Rows) → AreTyped rows → AreTyped (without_record_row n rows)
typed_less_record n rows t = record {
  version = t.version;
  dated = t.dated;
  society = t.society;
  batches = t.batches;
  records = kept_by _ _ rows.records t.records;
  lines = t.lines;
  packs = t.packs;
  receipts = t.receipts;
  slips = t.slips;
  slip_lines = t.slip_lines;
  slip_packs = t.slip_packs;
  spans = t.spans;
  links = t.links;
  soughts = t.soughts;
}

pub typed_less_lines : (n : ℕ) (rows : Rows) → AreTyped rows → AreTyped (without_lines n rows)
typed_less_lines n rows t = record {
  version = t.version;
  dated = t.dated;
  society = t.society;
  batches = t.batches;
  records = t.records;
  lines = kept_by _ _ rows.lines t.lines;
  packs = kept_by _ _ rows.packs t.packs;
  receipts = t.receipts;
  slips = t.slips;
  slip_lines = t.slip_lines;
  slip_packs = t.slip_packs;
  spans = t.spans;
  links = t.links;
  soughts = t.soughts;
}

pub typed_receipt : (token : List ℕ) (receipt : Receipt) → IsToken token → IsTypedReceipt receipt → (rows : Rows)
    → AreTyped rows → AreTyped (with_receipt token receipt rows)
typed_receipt token receipt is kept rows t = record {
  version = t.version;
  dated = t.dated;
  society = t.society;
  batches = t.batches;
  records = t.records;
  lines = t.lines;
  packs = t.packs;
  receipts = all_then _ rows.receipts _ t.receipts (is, kept);
  slips = t.slips;
  slip_lines = t.slip_lines;
  slip_packs = t.slip_packs;
  spans = t.spans;
  links = t.links;
  soughts = t.soughts;
}

pub typed_slip : (n keep gone : ℕ) (is_undone : Bool) → IsU32 n → IsU32 keep → IsU32 gone → (rows : Rows)
    → AreTyped rows → AreTyped (with_slip_row n keep gone is_undone rows)
typed_slip n keep gone is_undone a b c rows t = record {
  version = t.version;
  dated = t.dated;
  society = t.society;
  batches = t.batches;
  records = t.records;
  lines = t.lines;
  packs = t.packs;
  receipts = t.receipts;
  slips = put_all IsTypedSlip (λ (s : SlipRow). s.no) _ rows.slips
      (a, b, c) t.slips;
  slip_lines = t.slip_lines;
  slip_packs = t.slip_packs;
  spans = t.spans;
  links = t.links;
  soughts = t.soughts;
}

undone_all : (n : ℕ) (ss : List SlipRow) → AllByRecursion IsTypedSlip ss → AllByRecursion IsTypedSlip
    (map (undone_at n) ss)
undone_all n [] h = tt
undone_all n (s ∷ ss) h = (go (s.no == n), undone_all n ss h.1)
  where
    go : (b : Bool) → IsTypedSlip (cond b (record s { is_undone = true }) s)
    go true = h.0
    go false = h.0

pub typed_undone : (n : ℕ) (rows : Rows) → AreTyped rows → AreTyped (with_undone n rows)
typed_undone n rows t = record {
  version = t.version;
  dated = t.dated;
  society = t.society;
  batches = t.batches;
  records = t.records;
  lines = t.lines;
  packs = t.packs;
  receipts = t.receipts;
  slips = undone_all n rows.slips t.slips;
  slip_lines = t.slip_lines;
  slip_packs = t.slip_packs;
  spans = t.spans;
  links = t.links;
  soughts = t.soughts;
}
