-- Rows of other tables of which the same is seen.
use Rattle.std.proofs.Common.{◌≡◌, ◌≢◌, ℕ, true, false, not, List, [], ◌∷◌, refl, sym, ap, ap₂, subst, ◌∙◌}
use Rattle.std.specs.Prelude.{◌==◌, ◌&&◌, ◌||◌, Option, Some, None}
use Rattle.std.specs.List.{list_any}
use Rattle.std.specs.FinMap.{get}
use Rattle.date_spans.specs.Spans.{IsSpanOf, date_in}
use Rattle.record_kinds.specs.declared.record.Record.{Record}
use Rattle.archive_state.specs.Content.{Content}
use Rattle.archive_state.specs.Slips.{Slip}
use Rattle.store_tables.specs.Rows.{
  Rows,
  BatchRow,
  RecordRow,
  LineRow,
  LinkRow,
  PackRow,
  SoughtRow,
  SpanRow,
  lines_of,
  slip_lines_of,
}
use Rattle.store_rows.specs.Meaning.{
  IsRecordAt,
  IsSlipAt,
  Means,
  has_record,
  is_closed,
  receipts_in,
  slip_row_at,
}
use Rattle.store_rows.specs.Links.{AreLinked, KeepsLinks, has_link}
use Rattle.store_rows.specs.Sought.{IsSought, KeepsSought, sought_at}
use Rattle.store_rows.specs.Spans.{IsSpanned, KeepsSpans, span_at}
use Rattle.staged_rows.specs.Removing.{IsSeenAs}
use Rattle.list_laws.proofs.Booleans.{or_first, or_second}

-- ---- what is seen means the same
at_number : (n : ℕ) (rows other : Rows) → has_record n other ≡ has_record n rows
    → (has_record n rows ≡ true → lines_of n other ≡ lines_of n rows) → (o : Option Record) → IsRecordAt rows n o
    → IsRecordAt other n o
at_number n rows other has lines None h = has ∙ h
at_number n rows other has lines (Some r) h = (has ∙ h.0, lines h.0 ∙ h.1)

at_slip : (n : ℕ) (rows other : Rows) → other.slips ≡ rows.slips → other.slip_lines ≡ rows.slip_lines
    → other.slip_packs ≡ rows.slip_packs → (o : Option Slip) → IsSlipAt rows n o → IsSlipAt other n o
at_slip n rows other slips lines packs None h = ap (slip_row_at n) slips ∙ h
at_slip n rows other slips lines packs (Some slip) h = (
  ap (slip_row_at n) slips ∙ h.0,
  (λ i. slip_lines_of n (record rows { slip_lines = lines i; slip_packs = packs i })) ∙ h.1,
)

pub seen_means : (rows other : Rows) (c : Content) → IsSeenAs rows other → Means rows c → Means other c
seen_means rows other c seen was = record {
  batch = seen.batch ∙ was.batch;
  records = λ n. at_number n rows other (seen.recorded n) (seen.lines n) (get c.records n) (was.records n);
  next = seen.next ∙ was.next;
  receipts = was.receipts ∙ ap receipts_in (sym seen.receipts);
  slips = λ n. at_slip n rows other seen.slips seen.slip_lines seen.slip_packs (get c.slips n) (was.slips n);
}

spanned : (n : ℕ) (rows other : Rows) → IsSeenAs rows other → (o : Option Record) → IsRecordAt rows n o
    → IsSpanned o (span_at n rows.spans) → IsSpanned o (span_at n other.spans)
spanned n rows other seen None is h = tt
spanned n rows other seen (Some r) is h = subst (IsSpanOf (date_in r)) (sym (seen.spans n is.0)) h

pub seen_spans : (rows other : Rows) (c : Content) → IsSeenAs rows other → Means rows c → KeepsSpans rows c
    → KeepsSpans other c
seen_spans rows other c seen was keeps =
    λ n. spanned n rows other seen (get c.records n) (was.records n) (keeps n)

linked : (n : ℕ) (rows other : Rows) → IsSeenAs rows other → (o : Option Record) → IsRecordAt rows n o
    → AreLinked n o rows.links → AreLinked n o other.links
linked n rows other seen None is h = tt
linked n rows other seen (Some r) is h = λ target named. seen.links n target is.0 ∙ h target named

pub seen_links : (rows other : Rows) (c : Content) → IsSeenAs rows other → Means rows c → KeepsLinks rows c
    → KeepsLinks other c
seen_links rows other c seen was keeps =
    λ n. linked n rows other seen (get c.records n) (was.records n) (keeps n)

sought : (n : ℕ) (rows other : Rows) → IsSeenAs rows other → (o : Option Record) → IsRecordAt rows n o
    → IsSought o (sought_at n rows.soughts) → IsSought o (sought_at n other.soughts)
sought n rows other seen None is h = tt
sought n rows other seen (Some r) is h = seen.soughts n is.0 ∙ h

pub seen_soughts : (rows other : Rows) (c : Content) → IsSeenAs rows other → Means rows c → KeepsSought rows c
    → KeepsSought other c
seen_soughts rows other c seen was keeps =
    λ n. sought n rows other seen (get c.records n) (was.records n) (keeps n)

pub seen_then : (a b c : Rows) → IsSeenAs a b → IsSeenAs b c → IsSeenAs a c
seen_then a b c first next = record {
  version = next.version ∙ first.version;
  has_spans = next.has_spans ∙ first.has_spans;
  next = next.next ∙ first.next;
  society = next.society ∙ first.society;
  receipts = next.receipts ∙ first.receipts;
  slips = next.slips ∙ first.slips;
  slip_lines = next.slip_lines ∙ first.slip_lines;
  slip_packs = next.slip_packs ∙ first.slip_packs;
  pasts = next.pasts ∙ first.pasts;
  batch = next.batch ∙ first.batch;
  recorded = λ n. next.recorded n ∙ first.recorded n;
  lines = λ n has. next.lines n (first.recorded n ∙ has) ∙ first.lines n has;
  spans = λ n has. next.spans n (first.recorded n ∙ has) ∙ first.spans n has;
  links = λ n target has. next.links n target (first.recorded n ∙ has) ∙ first.links n target has;
  soughts = λ n has. next.soughts n (first.recorded n ∙ has) ∙ first.soughts n has;
}

-- ---- other tables
-- the rows with these batches, rows of `record`, lines and spans
abbrev pub with_tables : List BatchRow → List RecordRow → List LineRow → List SpanRow → Rows → Rows
with_tables bs rs ls ss rows = record rows { batches = bs; records = rs; lines = ls; spans = ss }

pub seen_alike : (bs : List BatchRow) (rs : List RecordRow) (ls : List LineRow) (ss : List SpanRow) (rows : Rows)
    → is_closed 0 bs ≡ is_closed 0 rows.batches
    → ((n : ℕ) → has_record n (with_tables bs rs ls ss rows) ≡ has_record n rows)
    → ((n : ℕ) → has_record n rows ≡ true → lines_of n (with_tables bs rs ls ss rows) ≡ lines_of n rows)
    → ((n : ℕ) → has_record n rows ≡ true → span_at n ss ≡ span_at n rows.spans)
    → IsSeenAs rows (with_tables bs rs ls ss rows)
seen_alike bs rs ls ss rows closed has lines spans = record {
  version = refl;
  has_spans = refl;
  next = refl;
  society = refl;
  receipts = refl;
  slips = refl;
  slip_lines = refl;
  slip_packs = refl;
  pasts = refl;
  batch = closed;
  recorded = has;
  lines = lines;
  spans = spans;
  links = λ n target has. refl;
  soughts = λ n has. refl;
}

-- other rows with all lines
pub seen_packed : (ps : List PackRow) (rows : Rows)
    → ((n : ℕ) → has_record n rows ≡ true → lines_of n (record rows { packs = ps }) ≡ lines_of n rows)
    → IsSeenAs rows (record rows { packs = ps })
seen_packed ps rows lines = record {
  version = refl;
  has_spans = refl;
  next = refl;
  society = refl;
  receipts = refl;
  slips = refl;
  slip_lines = refl;
  slip_packs = refl;
  pasts = refl;
  batch = refl;
  recorded = λ n. refl;
  lines = lines;
  spans = λ n has. refl;
  links = λ n target has. refl;
  soughts = λ n has. refl;
}

-- other links, and other rows of what is looked for
pub seen_linked : (ls : List LinkRow) (rows : Rows)
    → ((n target : ℕ) → has_record n rows ≡ true → has_link target n ls ≡ has_link target n rows.links)
    → IsSeenAs rows (record rows { links = ls })
seen_linked ls rows links = record {
  version = refl;
  has_spans = refl;
  next = refl;
  society = refl;
  receipts = refl;
  slips = refl;
  slip_lines = refl;
  slip_packs = refl;
  pasts = refl;
  batch = refl;
  recorded = λ n. refl;
  lines = λ n has. refl;
  spans = λ n has. refl;
  links = links;
  soughts = λ n has. refl;
}

pub seen_sought : (ss : List SoughtRow) (rows : Rows)
    → ((n : ℕ) → has_record n rows ≡ true → sought_at n ss ≡ sought_at n rows.soughts)
    → IsSeenAs rows (record rows { soughts = ss })
seen_sought ss rows soughts = record {
  version = refl;
  has_spans = refl;
  next = refl;
  society = refl;
  receipts = refl;
  slips = refl;
  slip_lines = refl;
  slip_packs = refl;
  pasts = refl;
  batch = refl;
  recorded = λ n. refl;
  lines = λ n has. refl;
  spans = λ n has. refl;
  links = λ n target has. refl;
  soughts = soughts;
}

pub seen_same : (rows : Rows) → IsSeenAs rows rows
seen_same rows = seen_alike rows.batches rows.records rows.lines rows.spans rows refl (λ n. refl) (λ n has. refl)
    (λ n has. refl)

-- a number with a record is none without
pub differ : (n m : ℕ) (rows : Rows) → has_record n rows ≡ false → has_record m rows ≡ true → n ≢ m
differ n m rows none has same =
    let both : true ≡ false = sym has ∙ ap (λ k. has_record k rows) (sym same) ∙ none in cc

-- a number without a record has none in the rows
pub absent : (rows : Rows) (c : Content) (n : ℕ) → Means rows c → get c.records n ≡ None → has_record n rows ≡ false
absent rows c n was none = subst (IsRecordAt rows n) none (was.records n)

-- a batch that is not there is not closed
pub none_closed : (n : ℕ) (xs : List BatchRow) → list_any (λ (b : BatchRow). b.no == n) xs ≡ false
    → is_closed n xs ≡ false
none_closed n [] none = refl
none_closed n (x ∷ xs) none =
    ap₂ (λ a b. (a && not x.is_open) || b) (or_first (x.no == n) (list_any (λ (b : BatchRow). b.no == n) xs) none)
    (none_closed n xs (or_second (x.no == n) (list_any (λ (b : BatchRow). b.no == n) xs) none))
