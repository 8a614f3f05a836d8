-- What rows of the first version mean when they are renewed.
use Rattle.std.proofs.Common.{
  ◌≡◌,
  ℕ,
  Bool,
  true,
  false,
  List,
  [],
  ◌∷◌,
  map,
  Option,
  Some,
  None,
  refl,
  sym,
  ap,
  ◌∙◌,
  cond,
  subst,
}
use Rattle.std.specs.Prelude.{◌==◌, ◌||◌, IfSome, option_map}
use Rattle.std.specs.FinMap.{get}
use Rattle.std.specs.List.{list_any}
use Rattle.stored_lines.specs.Line.{Label}
use Rattle.record_kinds.specs.declared.record.Record.{Record}
use Rattle.records.specs.Shallow.{IsShallow}
use Rattle.record_shapes.specs.Lists.{EachOf}
use Rattle.archive_state.specs.Content.{Content}
use Rattle.archive_state.specs.Slips.{Slip}
use Rattle.archive_state.specs.declared.slip.Change.{Change}
use Rattle.older_archives.specs.Anew.{IsAnew, OldChange, OldContent, OldSlip, anew, change_anew, slip_anew}
use Rattle.older_archives.specs.Old.{OldRecord}
use Rattle.store_tables.specs.Reading.{ReadRows, read_line, read_of, read_pack, read_record, read_sides}
use Rattle.store_tables.specs.Rows.{Rows, SlipRow, lines_of, slip_lines_of, with_later_tables, with_version}
use Rattle.store_rows.specs.Grouped.{is_recorded, items_at, stored_at}
use Rattle.store_rows.specs.Meaning.{
  AllShallow,
  IsRecordAt,
  IsShallowOption,
  IsShallowSlip,
  IsSlipAt,
  has_record,
  is_closed,
  slip_row_at,
}
use Rattle.store_rows.specs.Links.{AreLinked}
use Rattle.store_rows.specs.Sides.{SideLine}
use Rattle.store_rows.specs.Sought.{IsSought, sought_at}
use Rattle.store_rows.specs.Spans.{IsSpanned, span_at}
use Rattle.store_rows.proofs.StateMeant.{recorded_same, slip_lines_same, stored_same}
use Rattle.store_rows.proofs.StateRecords.{recorded_alike}
use Rattle.older_archives.specs.Meaning.{
  AllShallowOld,
  IsShallowOld,
  IsShallowOldChange,
  MeansAnew,
  WasRecordAt,
  WasSlipAt,
}
use Rattle.older_archives.specs.Reading.{
  AreChangesAnewOf,
  AreRecordsAnew,
  AreSlipsAnew,
  LacksOldChanges,
  LacksOldRecord,
}
use Rattle.older_archives.specs.Renewing.{
  IsAnewOf,
  IsRenewed,
  RecordAnew,
  Renewal,
  SlipAnew,
  with_records_anew,
  with_renewal,
  with_slips_anew,
}
use Rattle.older_archives.proofs.Rest.{records_only, slips_only}
use Rattle.older_archives.proofs.Later.{links_written, sought_written, span_written}
use Rattle.older_archives.proofs.Written.{lines_written, slip_written}
use Rattle.older_archives.proofs.OldLines.{shallow_still}
use Rattle.record_shapes.proofs.Each.{each_more}

-- ---- what is shallow stays so

shallow_anew : (o : OldRecord) → IsShallowOld o → IsShallow (anew o)
shallow_anew o h = shallow_still _ o.rest h

shallow_new : (o : Option OldRecord) → IfSome o IsShallowOld → IsShallowOption (option_map anew o)
shallow_new None h = tt
shallow_new (Some o) h = shallow_anew o h

shallow_changes : (cs : List OldChange) → EachOf IsShallowOldChange cs
    → EachOf (λ (c : Change). IsShallow c.old × IsShallowOption c.new) (map change_anew cs)
shallow_changes [] h = tt
shallow_changes (c ∷ cs) h = ((shallow_anew c.old h.0.0, shallow_new c.new h.0.1), shallow_changes cs h.1)

shallow_record : (found : Option OldRecord) (now : Option Record) (r : Record) → now ≡ option_map anew found
    → now ≡ Some r → ((o : OldRecord) → found ≡ Some o → IsShallowOld o) → IsShallow r
shallow_record None now r is e h = absurd (let no : None ≡ Some r = sym is ∙ e in cc)
shallow_record (Some o) now r is e h =
    let some : Some (anew o) ≡ Some r = sym is ∙ e in
    let same : anew o ≡ r = cc in
    subst IsShallow same (shallow_anew o (h o refl))

shallow_slip : (found : Option OldSlip) (now : Option Slip) (s : Slip) → now ≡ option_map slip_anew found
    → now ≡ Some s → ((o : OldSlip) → found ≡ Some o → EachOf IsShallowOldChange o.changes) → IsShallowSlip s
shallow_slip None now s is e h = absurd (let no : None ≡ Some s = sym is ∙ e in cc)
shallow_slip (Some o) now s is e h =
    let some : Some (slip_anew o) ≡ Some s = sym is ∙ e in
    let same : slip_anew o ≡ s = cc in
    subst IsShallowSlip same (shallow_changes o.changes (h o refl))

all_shallow : (before : OldContent) (c : Content) → IsAnew before c → AllShallowOld before → AllShallow c
all_shallow before c is h = record {
  records = λ n r e. shallow_record (get before.records n) (get c.records n) r (is.records n) e (h.records n);
  slips = λ n s e. shallow_slip (get before.slips n) (get c.slips n) s (is.slips n) e (h.slips n);
}

-- ---- the row of a slip
pub row_any : (n : ℕ) (ss : List SlipRow) (s : SlipRow) → slip_row_at n ss ≡ Some s
    → list_any (λ (x : SlipRow). x.no == n) ss ≡ true
row_any n [] s e = absurd cc
row_any n (x ∷ xs) s e =
    elim (x.no == n) as (λ b. cond b (Some x) (slip_row_at n xs) ≡ Some s
    → (b || list_any (λ (y : SlipRow). y.no == n) xs) ≡ true) [
      | true ↦ λ _. refl
      | false ↦ λ f. row_any n xs s f
    ] e

pub row_none : (n : ℕ) (ss : List SlipRow) → slip_row_at n ss ≡ None → list_any (λ (x : SlipRow). x.no == n) ss ≡ true
    → ⊥
row_none n [] e f = cc
row_none n (x ∷ xs) e f =
    elim (x.no == n) as (λ b. cond b (Some x) (slip_row_at n xs) ≡ None
    → (b || list_any (λ (y : SlipRow). y.no == n) xs) ≡ true → ⊥) [
      | true ↦ λ g _. let no : Some x ≡ None = g in absurd cc
      | false ↦ λ g h. row_none n xs g h
    ] e f

-- ---- rows that are renewed
-- what is read anew of the rows
pub record IsReadOf (rows : Rows) (renewal : Renewal) : Type 0 where
  pub records : EachOf (λ (r : RecordAnew). IsAnewOf (lines_of r.number rows) r.anew) renewal.records
  pub all_records : (n : ℕ) → has_record n rows ≡ true
      → list_any (λ (r : RecordAnew). r.number == n) renewal.records ≡ true
  pub slips : EachOf (λ (s : SlipAnew). AreChangesAnewOf (slip_lines_of s.number rows) s.sides) renewal.slips
  pub all_slips : (n : ℕ) → list_any (λ (s : SlipRow). s.no == n) rows.slips ≡ true
      → list_any (λ (s : SlipAnew). s.number == n) renewal.slips ≡ true

module _ (rows : Rows) (renewal : Renewal) (read : IsReadOf rows renewal) (none : rows.spans ≡ [])
    (nothing : rows.soughts ≡ []) where
  abbrev undated : Rows
  undated = with_version 2 (with_later_tables rows)

  abbrev mid : Rows
  mid = with_records_anew renewal.records undated

  abbrev after : Rows
  after = with_slips_anew renewal.slips mid

  abbrev flat : Rows
  flat = record rows {
    version = 2;
    has_spans = true;
    lines = mid.lines;
    packs = mid.packs;
    spans = mid.spans;
    links = mid.links;
    soughts = mid.soughts;
    slip_lines = after.slip_lines;
    slip_packs = after.slip_packs;
  }

  after_is : after ≡ flat
  after_is = slips_only renewal.slips mid
      ∙ ap (λ (x : Rows). record x { slip_lines = after.slip_lines; slip_packs = after.slip_packs })
      (records_only renewal.records undated)

  record_is : (n : ℕ) (found : Option OldRecord) (now : Option Record) → now ≡ option_map anew found
      → WasRecordAt rows n found → IsRecordAt flat n now
  record_is n None now is was = subst (IsRecordAt flat n) (sym is) was
  record_is n (Some o) now is was = subst (IsRecordAt flat n) (sym is) (
    was.0,
    lines_written (λ k. lines_of k rows) n o was.1 renewal.records undated read.records (read.all_records n was.0),
  )

  spanned_is : (n : ℕ) (found : Option OldRecord) (now : Option Record) → now ≡ option_map anew found
      → WasRecordAt rows n found → IsSpanned now (span_at n mid.spans)
  spanned_is n None now is was = subst (λ (x : Option Record). IsSpanned x (span_at n mid.spans)) (sym is) tt
  spanned_is n (Some o) now is was = subst (λ (x : Option Record). IsSpanned x (span_at n mid.spans)) (sym is)
      (span_written (λ k. lines_of k rows) n o was.1 renewal.records undated read.records
      (read.all_records n was.0) (ap (span_at n) none))

  sought_is : (n : ℕ) (found : Option OldRecord) (now : Option Record) → now ≡ option_map anew found
      → WasRecordAt rows n found → IsSought now (sought_at n mid.soughts)
  sought_is n None now is was = subst (λ (x : Option Record). IsSought x (sought_at n mid.soughts)) (sym is) tt
  sought_is n (Some o) now is was = subst (λ (x : Option Record). IsSought x (sought_at n mid.soughts)) (sym is)
      (sought_written (λ k. lines_of k rows) n o was.1 renewal.records undated read.records
      (read.all_records n was.0) (ap (sought_at n) nothing))

  linked_is : (n : ℕ) (found : Option OldRecord) (now : Option Record) → now ≡ option_map anew found
      → WasRecordAt rows n found → AreLinked n now mid.links
  linked_is n None now is was = subst (λ (x : Option Record). AreLinked n x mid.links) (sym is) tt
  linked_is n (Some o) now is was = subst (λ (x : Option Record). AreLinked n x mid.links) (sym is)
      (links_written (λ k. lines_of k rows) n o was.1 renewal.records undated read.records
      (read.all_records n was.0))

  slip_is : (n : ℕ) (found : Option OldSlip) (now : Option Slip) → now ≡ option_map slip_anew found
      → WasSlipAt rows n found → IsSlipAt flat n now
  slip_is n None now is was = subst (IsSlipAt flat n) (sym is) was
  slip_is n (Some s) now is was = subst (IsSlipAt flat n) (sym is) (
    was.0,
    slip_written (λ k. slip_lines_of k rows) n s.changes was.2 was.1 renewal.slips mid read.slips
        (read.all_slips n (row_any n rows.slips _ was.0)),
  )

  pub renewed : (c : Content) → MeansAnew rows c → IsRenewed rows c (with_renewal renewal rows)
  renewed c (before, old, is, shallow) = subst (IsRenewed rows c) (sym after_is)
      (record {
        dated = record { version = refl; has_spans = refl };
        means = record {
          batch = old.batch;
          records = λ n. record_is n (get before.records n) (get c.records n) (is.records n) (old.records n);
          next = old.next ∙ sym is.next;
          receipts = is.receipts ∙ old.receipts;
          slips = λ n. slip_is n (get before.slips n) (get c.slips n) (is.slips n) (old.slips n);
        };
        shallow = all_shallow before c is shallow;
        spans = λ n. spanned_is n (get before.records n) (get c.records n) (is.records n) (old.records n);
        soughts = λ n. sought_is n (get before.records n) (get c.records n) (is.records n) (old.records n);
        links = λ n. linked_is n (get before.records n) (get c.records n) (is.records n) (old.records n);
        society = refl;
        batches = refl;
      })

-- ---- from what is read of the rows

module _ (rows : Rows) (closed : ℕ → Bool) (lines : ℕ → List (ℕ × Label)) (slip_lines : ℕ → List SideLine)
    (closed_is : (n : ℕ) → closed n ≡ is_closed n rows.batches)
    (lines_are : (n : ℕ) → lines n ≡ stored_at (map read_line rows.lines) (map read_pack rows.packs) n)
    (slip_lines_are : (n : ℕ) → slip_lines n ≡ items_at n (read_sides rows)) where
  has_is : (n : ℕ) → is_recorded closed (map read_record rows.records) n ≡ has_record n rows
  has_is n = recorded_alike closed (λ k. is_closed k rows.batches) closed_is (map read_record rows.records) n
      ∙ recorded_same (λ k. is_closed k rows.batches) n rows.records

  lines_at : (n : ℕ) → lines n ≡ lines_of n rows
  lines_at n = lines_are n ∙ stored_same n rows

  slip_lines_at : (n : ℕ) → slip_lines n ≡ slip_lines_of n rows
  slip_lines_at n = slip_lines_are n ∙ slip_lines_same n rows

  pub read_of_rows : (renewal : Renewal)
      → AreRecordsAnew closed lines (map read_record rows.records) renewal.records
      → AreSlipsAnew slip_lines rows.slips renewal.slips → IsReadOf rows renewal
  read_of_rows renewal records slips = record {
    records = each_more (λ (r : RecordAnew). IsAnewOf (lines r.number) r.anew)
        (λ (r : RecordAnew). IsAnewOf (lines_of r.number rows) r.anew)
        (λ r h. subst (λ ls. IsAnewOf ls r.anew) (lines_at r.number) h) renewal.records records.each;
    all_records = λ n e. records.all n (has_is n ∙ e);
    slips = each_more (λ (s : SlipAnew). AreChangesAnewOf (slip_lines s.number) s.sides)
        (λ (s : SlipAnew). AreChangesAnewOf (slip_lines_of s.number rows) s.sides)
        (λ s h. subst (λ ls. AreChangesAnewOf ls s.sides) (slip_lines_at s.number) h) renewal.slips slips.each;
    all_slips = slips.all;
  }

  pub no_record : LacksOldRecord closed (map read_record rows.records) lines → (c : Content) → MeansAnew rows c → ⊥
  no_record (n, there, none) c (before, old, is, shallow) =
      go (get before.records n) (λ o. shallow.records n o) (old.records n)
    where
      go : (found : Option OldRecord) → ((o : OldRecord) → found ≡ Some o → IsShallowOld o) → WasRecordAt rows n found
          → ⊥
      go None deep absent = let no : true ≡ false = sym there ∙ has_is n ∙ absent in absurd cc
      go (Some o) deep was = none o (deep o refl)
          (record { is = was.1.is; lines = lines_at n ∙ was.1.lines })

  pub no_slip : LacksOldChanges rows.slips slip_lines → (c : Content) → MeansAnew rows c → ⊥
  no_slip (n, there, none) c (before, old, is, shallow) =
      go (get before.slips n) (λ s. shallow.slips n s) (old.slips n)
    where
      go : (found : Option OldSlip) → ((s : OldSlip) → found ≡ Some s → EachOf IsShallowOldChange s.changes)
          → WasSlipAt rows n found → ⊥
      go None deep absent = row_none n rows.slips absent there
      go (Some s) deep was = none s.changes was.2 (deep s refl) (slip_lines_at n ∙ was.1)

-- the same of whatever was read as these
pub read_by : (rows : Rows) (read : ReadRows) → read_of rows ≡ read → (closed : ℕ → Bool)
    (lines : ℕ → List (ℕ × Label)) (slip_lines : ℕ → List SideLine) → ((n : ℕ) → closed n ≡ is_closed n read.batches)
    → ((n : ℕ) → lines n ≡ stored_at read.lines read.packs n) → ((n : ℕ) → slip_lines n ≡ items_at n read.slip_lines)
    → (renewal : Renewal) → AreRecordsAnew closed lines read.records renewal.records
    → AreSlipsAnew slip_lines read.slips renewal.slips → IsReadOf rows renewal
read_by rows read same = subst (λ (r : ReadRows). (closed : ℕ → Bool)
    (lines : ℕ → List (ℕ × Label)) (slip_lines : ℕ → List SideLine) → ((n : ℕ) → closed n ≡ is_closed n r.batches)
    → ((n : ℕ) → lines n ≡ stored_at r.lines r.packs n) → ((n : ℕ) → slip_lines n ≡ items_at n r.slip_lines)
    → (renewal : Renewal) → AreRecordsAnew closed lines r.records renewal.records
    → AreSlipsAnew slip_lines r.slips renewal.slips → IsReadOf rows renewal) same (read_of_rows rows)

pub no_record_by : (rows : Rows) (read : ReadRows) → read_of rows ≡ read → (closed : ℕ → Bool)
    (lines : ℕ → List (ℕ × Label)) → ((n : ℕ) → closed n ≡ is_closed n read.batches)
    → ((n : ℕ) → lines n ≡ stored_at read.lines read.packs n) → LacksOldRecord closed read.records lines → (c : Content)
    → MeansAnew rows c → ⊥
no_record_by rows read same = subst (λ (r : ReadRows). (closed : ℕ → Bool)
    (lines : ℕ → List (ℕ × Label)) → ((n : ℕ) → closed n ≡ is_closed n r.batches)
    → ((n : ℕ) → lines n ≡ stored_at r.lines r.packs n) → LacksOldRecord closed r.records lines → (c : Content)
    → MeansAnew rows c → ⊥) same
    (λ closed lines closed_is lines_are. no_record rows closed lines
    (λ n. items_at n (read_sides rows)) closed_is lines_are (λ n. refl))

pub no_slip_by : (rows : Rows) (read : ReadRows) → read_of rows ≡ read → (slip_lines : ℕ → List SideLine)
    → ((n : ℕ) → slip_lines n ≡ items_at n read.slip_lines) → LacksOldChanges read.slips slip_lines → (c : Content)
    → MeansAnew rows c → ⊥
no_slip_by rows read same = subst (λ (r : ReadRows). (slip_lines : ℕ → List SideLine)
    → ((n : ℕ) → slip_lines n ≡ items_at n r.slip_lines) → LacksOldChanges r.slips slip_lines → (c : Content)
    → MeansAnew rows c → ⊥) same
    (λ slip_lines slip_lines_are. no_slip rows (λ n. is_closed n rows.batches)
    (stored_at (map read_line rows.lines) (map read_pack rows.packs)) slip_lines (λ n. refl) (λ n. refl)
    slip_lines_are)
