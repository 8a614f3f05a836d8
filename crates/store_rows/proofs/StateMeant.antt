-- What rows mean, from what is read of them.
use Rattle.std.proofs.Common.{
  ◌≡◌,
  ℕ,
  Bool,
  true,
  false,
  refl,
  sym,
  ap,
  ap₂,
  ◌∙◌,
  ◌++◌,
  cond,
  subst,
  ◌⊎◌,
  inl,
  inr,
  List,
  [],
  ◌∷◌,
}
use Rattle.std.specs.Prelude.{Option, Some, None, ◌==◌, ◌&&◌, ◌||◌, map, filter, fold}
use Rattle.std.specs.List.{list_any, flat_map}
use Rattle.std.specs.FinMap.{get, insert, empty}
use Rattle.std.proofs.lemmas.List.{map-append}
use Rattle.std.proofs.lemmas.List.Elements.{filter-append}
use Rattle.stored_lines.specs.Line.{Label}
use Rattle.record_kinds.specs.declared.record.Record.{Record}
use Rattle.records.specs.Shallow.{IsShallow}
use Rattle.archive_state.specs.Content.{Content, Receipts, nothing}
use Rattle.archive_state.specs.Slips.{Slip}
use Rattle.store_tables.specs.Rows.{
  Rows,
  RecordRow,
  LineRow,
  PackRow,
  ReceiptRow,
  SlipLineRow,
  SlipPackRow,
  lines_in_side,
  lines_of,
  slip_line_of,
  slip_lines_of,
}
use Rattle.store_tables.specs.Reading.{
  ReadRows,
  read_of,
  read_record,
  read_line,
  read_pack,
  read_receipt,
  read_sides,
  read_slip_line,
  read_slip_pack,
  lines_in_pack,
}
use Rattle.store_rows.specs.Meaning.{is_closed, slip_row_at, IsRecordAt, IsSlipAt, IsShallowSlip, Means, AreReadable}
use Rattle.store_rows.specs.Sides.{SideLine}
use Rattle.store_rows.specs.Grouped.{
  items_at,
  stored_at,
  is_recorded,
  with_kept,
  IsKeptAs,
  IsSlipBy,
  AreRecordsOf,
  AreSlipsOf,
  LacksRecord,
  LacksChanges,
}

pub lines_same : (n : ℕ) (ls : List LineRow) → items_at n (map read_line ls) ≡ map (λ (l : LineRow). l.line)
    (filter (λ (l : LineRow). l.no == n) ls)
lines_same n [] = refl
lines_same n (l ∷ ls) = go (l.no == n) (lines_same n ls)
  where
    go : (b : Bool) → items_at n (map read_line ls) ≡ map (λ (l : LineRow). l.line)
        (filter (λ (l : LineRow). l.no == n) ls)
        → map (λ (p : ℕ × (ℕ × Label)). p.1)
        (cond b (read_line l ∷ filter (λ (p : ℕ × (ℕ × Label)). p.0 == n) (map read_line ls))
        (filter (λ (p : ℕ × (ℕ × Label)). p.0 == n) (map read_line ls)))
        ≡ map (λ (l : LineRow). l.line)
        (cond b (l ∷ filter (λ (l : LineRow). l.no == n) ls) (filter (λ (l : LineRow). l.no == n) ls))
    go true e = ap (λ t. l.line ∷ t) e
    go false e = e

packs_same : (n : ℕ) (ps : List PackRow) → flat_map (λ (ls : List (ℕ × Label)). ls) (items_at n (map read_pack ps))
    ≡ flat_map (λ (p : PackRow). p.lines) (filter (λ (p : PackRow). p.no == n) ps)
packs_same n [] = refl
packs_same n (p ∷ ps) =
    elim (p.no == n) as (λ b. flat_map (λ (ls : List (ℕ × Label)). ls)
    (map (λ (q : ℕ × List (ℕ × Label)). q.1)
    (cond b (read_pack p ∷ filter (λ (q : ℕ × List (ℕ × Label)). q.0 == n) (map read_pack ps))
    (filter (λ (q : ℕ × List (ℕ × Label)). q.0 == n) (map read_pack ps))))
    ≡ flat_map (λ (q : PackRow). q.lines)
    (cond b (p ∷ filter (λ (q : PackRow). q.no == n) ps) (filter (λ (q : PackRow). q.no == n) ps))) [
      | true ↦ ap (λ ls. p.lines ++ ls) (packs_same n ps)
      | false ↦ packs_same n ps
    ]

-- the lines of a number, of either schema
pub stored_same : (n : ℕ) (rows : Rows) → stored_at (map read_line rows.lines) (map read_pack rows.packs) n
    ≡ lines_of n rows
stored_same n rows = ap₂ (λ ls ms. ls ++ ms) (lines_same n rows.lines) (packs_same n rows.packs)

lines_of_slip : (n : ℕ) (ls : List SlipLineRow) → items_at n (map read_slip_line ls) ≡ map slip_line_of
    (filter (λ (s : SlipLineRow). s.slip == n) ls)
lines_of_slip n [] = refl
lines_of_slip n (l ∷ ls) = go (l.slip == n) (lines_of_slip n ls)
  where
    go : (b : Bool) → items_at n (map read_slip_line ls) ≡ map slip_line_of
        (filter (λ (s : SlipLineRow). s.slip == n) ls)
        → map (λ (p : ℕ × SideLine). p.1)
        (cond b (read_slip_line l ∷ filter (λ (p : ℕ × SideLine). p.0 == n) (map read_slip_line ls))
        (filter (λ (p : ℕ × SideLine). p.0 == n) (map read_slip_line ls)))
        ≡ map slip_line_of (cond b (l ∷ filter (λ (s : SlipLineRow). s.slip == n) ls)
        (filter (λ (s : SlipLineRow). s.slip == n) ls))
    go true e = ap (λ t. slip_line_of l ∷ t) e
    go false e = e

both_at : (n : ℕ) (ps qs : List (ℕ × SideLine)) → items_at n (ps ++ qs) ≡ items_at n ps ++ items_at n qs
both_at n ps qs =
    let own = filter (λ (p : ℕ × SideLine). p.0 == n) in
    ap (map (λ (p : ℕ × SideLine). p.1)) (filter-append (λ (p : ℕ × SideLine). p.0 == n) ps qs)
    ∙ map-append (λ (p : ℕ × SideLine). p.1) (own ps) (own qs)

-- the lines of one side, each with the slip
one_at : (n k : ℕ) (ls : List SideLine) (b : Bool) → (k == n) ≡ b → items_at n (map (λ (l : SideLine). (k, l)) ls)
    ≡ cond b ls []
one_at n k [] true e = refl
one_at n k [] false e = refl
one_at n k (l ∷ ls) true e = rw e (ap (λ (ks : List SideLine). l ∷ ks) (one_at n k ls true e))
one_at n k (l ∷ ls) false e = rw e (one_at n k ls false e)

sides_at : (n : ℕ) (ss : List SlipPackRow) → items_at n (flat_map lines_in_pack (map read_slip_pack ss))
    ≡ flat_map (λ (s : SlipPackRow). lines_in_side s.side) (filter (λ (s : SlipPackRow). s.slip == n) ss)
sides_at n [] = refl
sides_at n (s ∷ ss) =
    let lines = lines_in_side s.side in
    both_at n (lines_in_pack (read_slip_pack s)) (flat_map lines_in_pack (map read_slip_pack ss))
    ∙ ap₂ (λ (ks ls : List SideLine). ks ++ ls) (one_at n s.slip lines (s.slip == n) refl) (sides_at n ss)
    ∙ go (s.slip == n)
  where
    go : (b : Bool) → cond b (lines_in_side s.side) []
        ++ flat_map (λ (s : SlipPackRow). lines_in_side s.side) (filter (λ (s : SlipPackRow). s.slip == n) ss)
        ≡ flat_map (λ (s : SlipPackRow). lines_in_side s.side)
        (cond b (s ∷ filter (λ (s : SlipPackRow). s.slip == n) ss) (filter (λ (s : SlipPackRow). s.slip == n) ss))
    go true = refl
    go false = refl

-- the lines of a slip, of either schema
pub slip_lines_same : (n : ℕ) (rows : Rows) → items_at n (read_sides rows) ≡ slip_lines_of n rows
slip_lines_same n rows =
    both_at n (map read_slip_line rows.slip_lines) (flat_map lines_in_pack (map read_slip_pack rows.slip_packs))
    ∙ ap₂ (λ (ks ls : List SideLine). ks ++ ls) (lines_of_slip n rows.slip_lines) (sides_at n rows.slip_packs)

pub recorded_same : (closed : ℕ → Bool) (n : ℕ) (rs : List RecordRow) → is_recorded closed (map read_record rs) n
    ≡ list_any (λ (r : RecordRow). (r.no == n) && closed r.batch) rs
recorded_same closed n [] = refl
recorded_same closed n (r ∷ rs) = ap (λ b. ((r.no == n) && closed r.batch) || b) (recorded_same closed n rs)

kept_same : (m : Receipts) (rs : List ReceiptRow) → fold with_kept m (map read_receipt rs) ≡ fold
    (λ k (r : ReceiptRow). insert k r.token r.receipt) m rs
kept_same m [] = refl
kept_same m (r ∷ rs) = kept_same (insert m r.token r.receipt) rs

-- what is read means a content
pub record ReadsAs (read : ReadRows) (c : Content) : Type 0 where
  pub batch : is_closed 0 read.batches ≡ true
  pub records : AreRecordsOf (λ n. is_closed n read.batches) (stored_at read.lines read.packs) read.records c.records
  pub next : read.next ≡ c.next
  pub receipts : c.receipts ≡ fold with_kept empty read.receipts
  pub slips : AreSlipsOf (λ n. items_at n read.slip_lines) read.slips c.slips

means_of : (rows : Rows) (c : Content) → ReadsAs (read_of rows) c → Means rows c
means_of rows c reads = record {
  batch = reads.batch;
  records = λ n. subst (λ b. IsKeptAs b (lines_of n rows) (get c.records n))
      (recorded_same (λ k. is_closed k rows.batches) n rows.records)
      (subst (λ ls. IsKeptAs (is_recorded (λ k. is_closed k rows.batches) (map read_record rows.records) n) ls
      (get c.records n)) (stored_same n rows) (reads.records n));
  next = reads.next;
  receipts = reads.receipts ∙ kept_same empty rows.receipts;
  slips = λ n. subst (λ ls. IsSlipBy n (slip_row_at n rows.slips) ls (get c.slips n))
      (slip_lines_same n rows) (reads.slips n);
}

pub meant : (rows : Rows) (read : ReadRows) (c : Content) → read_of rows ≡ read → ReadsAs read c → Means rows c
meant rows read c same reads = means_of rows c (subst (λ (r : ReadRows). ReadsAs r c) (sym same) reads)

-- a state that is put together: a new one with the next number, then with records, with slips, with receipts
pub put_together : (read : ReadRows) (s0 s1 s2 s3 : Content) → s0 ≡ record nothing { next = read.next }
    → s1 ≡ record s0 { records = s1.records } → s2 ≡ record s1 { slips = s2.slips }
    → s3 ≡ record s2 { receipts = fold with_kept s2.receipts read.receipts } → is_closed 0 read.batches ≡ true
    → AreRecordsOf (λ n. is_closed n read.batches) (stored_at read.lines read.packs) read.records s1.records
    → AreSlipsOf (λ n. items_at n read.slip_lines) read.slips s2.slips → ReadsAs read s3
put_together read s0 s1 s2 s3 e0 e1 e2 e3 batch records slips = record {
  batch = batch;
  records = subst (AreRecordsOf (λ n. is_closed n read.batches) (stored_at read.lines read.packs) read.records)
      (sym (ap (λ (s : Content). s.records) e3 ∙ ap (λ (s : Content). s.records) e2)) records;
  next = sym (ap (λ (s : Content). s.next) e3 ∙ ap (λ (s : Content). s.next) e2 ∙ ap (λ (s : Content). s.next) e1
      ∙ ap (λ (s : Content). s.next) e0);
  receipts = ap (λ (s : Content). s.receipts) e3
      ∙ ap (λ m. fold with_kept m read.receipts)
      (ap (λ (s : Content). s.receipts) e2 ∙ ap (λ (s : Content). s.receipts) e1
      ∙ ap (λ (s : Content). s.receipts) e0);
  slips = subst (AreSlipsOf (λ n. items_at n read.slip_lines) read.slips)
      (sym (ap (λ (s : Content). s.slips) e3)) slips;
}

-- rows are not readable: the batch of commands is not closed, a number lacks its record, or a slip its changes
no_batch : (rows : Rows) → is_closed 0 rows.batches ≡ false → AreReadable rows → ⊥
no_batch rows e readable = let means : Means rows readable.0 = readable.1 in
    let no : true ≡ false = sym means.batch ∙ e in absurd cc

no_record : (rows : Rows) → LacksRecord (λ n. is_closed n rows.batches) (map read_record rows.records)
    (stored_at (map read_line rows.lines) (map read_pack rows.packs)) → AreReadable rows → ⊥
no_record rows (n, there, none) readable = go (get readable.0.records n) (λ r. readable.2.records n r)
    (readable.1.records n)
  where
    go : (found : Option Record) → ((r : Record) → found ≡ Some r → IsShallow r) → IsRecordAt rows n found → ⊥
    go None shallow absent = let no : true ≡ false = sym there ∙ recorded_same (λ k. is_closed k rows.batches) n
        rows.records ∙ absent in absurd cc
    go (Some r) shallow is = none r (shallow r refl) (stored_same n rows ∙ is.1)

no_slip : (rows : Rows) → LacksChanges rows.slips (λ n. items_at n (read_sides rows))
    → AreReadable rows → ⊥
no_slip rows (n, there, none) readable = go (get readable.0.slips n) (λ s. readable.2.slips n s) (readable.1.slips n)
  where
    go : (found : Option Slip) → ((s : Slip) → found ≡ Some s → IsShallowSlip s) → IsSlipAt rows n found → ⊥
    go None shallow absent = there absent
    go (Some s) shallow is = none s.changes (shallow s refl) (slip_lines_same n rows ∙ is.1)

-- the same of what is read of them
pub no_records : (rows : Rows) (read : ReadRows) → read_of rows ≡ read → (is_closed 0 read.batches ≡ false)
    ⊎ LacksRecord (λ n. is_closed n read.batches) read.records (stored_at read.lines read.packs) → AreReadable rows → ⊥
no_records rows read same lacks =
    go (subst (λ (r : ReadRows). (is_closed 0 r.batches ≡ false) ⊎ LacksRecord (λ n. is_closed n r.batches) r.records
    (stored_at r.lines r.packs)) (sym same) lacks)
  where
    go : (is_closed 0 rows.batches ≡ false) ⊎ LacksRecord (λ n. is_closed n rows.batches) (map read_record rows.records)
        (stored_at (map read_line rows.lines) (map read_pack rows.packs)) → AreReadable rows → ⊥
    go (inl e) = no_batch rows e
    go (inr bad) = no_record rows bad

pub no_changes : (rows : Rows) (read : ReadRows) → read_of rows ≡ read → LacksChanges read.slips
    (λ n. items_at n read.slip_lines) → AreReadable rows → ⊥
no_changes rows read same lacks =
    no_slip rows (subst (λ (r : ReadRows). LacksChanges r.slips (λ n. items_at n r.slip_lines)) (sym same) lacks)
