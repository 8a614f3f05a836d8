-- What tables of the second schema show of which something was read first: a query leaves the connection as it was, so
-- that what is shown after it was shown before it.
use Rattle.std.proofs.Common.{◌≡◌, ℕ, Bool, true, List, [], sym, subst}
use Rattle.sqlite.specs.Clock.{timed}
use Rattle.sqlite.specs.Listing.{understood}
use Rattle.sqlite.specs.Order.{Row}
use Rattle.sqlite.specs.State.{IsUnchanged, Shown, ShowsRows as RowsShown, State}
use Rattle.sqlite.proofs.Callers.{IsPlain}
use Rattle.store_tables.specs.Looking.{meta_query}
use Rattle.store_tables.specs.Prepared.{
  batch_query,
  record_query,
  link_query,
  receipt_query,
  slip_query,
  sought_query,
  span_query,
}
use Rattle.store_tables.specs.Reading.{ReadRows}
use Rattle.store_tables.specs.Rows.{LinkRow, SoughtRow, SpanRow}
use Rattle.store_tables.specs.Schema.{archive_schema}
use Rattle.store_tables.specs.Showing.{
  ShowsBatch,
  ShowsEach,
  ShowsLink,
  ShowsLinks,
  ShowsMeta,
  ShowsRead,
  ShowsReceipt,
  ShowsRecord,
  ShowsSlip,
  ShowsSought,
  ShowsSoughts,
  ShowsSpan,
  ShowsSpans,
}
use Rattle.store_tables.proofs.Queries.{unchanged_by}
use Rattle.store_tables.proofs.Showing.{
  each_between,
  has_after,
  lines_between,
  seen_before,
  shown_between,
  sides_between,
}
use Rattle.store_tables.proofs.LinkTexts.{select_links_plain}
use Rattle.store_tables.proofs.SoughtTexts.{select_soughts_plain}
use Rattle.store_tables.proofs.SpanTexts.{select_spans_plain}
use Rattle.store_tables.proofs.Texts.{
  select_batches_plain,
  select_meta_plain,
  select_receipts_plain,
  select_records_plain,
  select_slips_plain,
}

back : (old new : State) → IsUnchanged old new → IsUnchanged new old
back old new h = (
  record {
    was_open = h.0.is_open;
    is_open = h.0.was_open;
    now_is = sym h.0.now_is;
    committed_is = sym h.0.committed_is;
    mode = sym h.0.mode;
  },
  record { changes = sym h.1.changes; last_rowid = sym h.1.last_rowid },
  sym h.2,
)

-- a plain query shows the same where it ends as it began
ends_as : (sql : List ℕ) (old mid : State) (all : List Row) → IsPlain (understood old.now.schema sql)
    → IsUnchanged old mid → Shown sql [] old mid all → Shown sql [] old old all
unfolding Shown
ends_as sql old mid all plain kept h =
    let none = (subst IsPlain h.1.is plain).0 in
    let full = timed [] h.0.formats h.1.now in
    let it = subst (RowsShown old mid sql h.0 full all) none h.2 in (
      h.0,
      h.1,
      subst (RowsShown old old sql h.0 full all) (sym none) (it.0, it.1, it.2, seen_before old mid kept),
    )

module _ {X : Type 0} (sql : List ℕ) (plain : IsPlain (understood (archive_schema true) sql)) (Shows : Row → X → Type 0)
    (old mid : State) (items : List X) (has : old.now.schema ≡ archive_schema true)
    (h : ShowsEach sql Shows old mid items) where
  plain_here : IsPlain (understood old.now.schema sql)
  plain_here = subst (λ s. IsPlain (understood s sql)) (sym has) plain

  kept : IsUnchanged old mid
  kept = unchanged_by sql [] old mid h.0 plain_here h.1

  pub has_behind : mid.now.schema ≡ archive_schema true
  has_behind = has_after old mid true kept has

  -- it is shown of the tables as they are
  pub shown_at : ShowsEach sql Shows old old items
  shown_at = (h.0, ends_as sql old mid h.0 plain_here kept h.1, h.2)

  -- and so is what another query shows only of the second schema, after it
  pub shown_before : {Y : Type 0} (other : List ℕ) → IsPlain (understood (archive_schema true) other)
      → (Shows : Row → Y → Type 0) (more : List Y) → ShowsEach other Shows mid mid more
      → ShowsEach other Shows old old more
  shown_before other is Shows more shows = (
    shows.0,
    shown_between other [] old mid mid old shows.0 (subst (λ s. IsPlain (understood s other)) (sym has_behind) is) kept
        (back old mid kept) shows.1,
    shows.2,
  )

  same : {Y : Type 0} (sql : List ℕ) (plain : (has_spans : Bool) → IsPlain (understood (archive_schema has_spans) sql))
      (Shows : Row → Y → Type 0) (items : List Y) → ShowsEach sql Shows mid mid items
      → ShowsEach sql Shows old old items
  same sql plain Shows items shows = each_between sql plain Shows old mid mid old items true has_behind kept
      (back old mid kept) shows

  -- all that is shown after it
  pub read_before : (b : Bool) (read : ReadRows) → ShowsRead b read mid mid → ShowsRead b read old old
  read_before b read shows = record {
    meta = (shows.meta.0, same meta_query select_meta_plain ShowsMeta _ shows.meta.1);
    records = record {
      batches_shown = same batch_query select_batches_plain ShowsBatch read.batches shows.records.batches_shown;
      records_shown = same record_query select_records_plain ShowsRecord read.records shows.records.records_shown;
    };
    lines = lines_between true b old mid mid old read.lines read.packs has_behind kept (back old mid kept) shows.lines;
    history = record {
      receipts_shown = same receipt_query select_receipts_plain ShowsReceipt read.receipts shows.history.receipts_shown;
      slips_shown = same slip_query select_slips_plain ShowsSlip read.slips shows.history.slips_shown;
      slip_lines_shown = sides_between true b old mid mid old read.slip_lines has_behind kept (back old mid kept)
          shows.history.slip_lines_shown;
    };
  }

-- ---- the spans, the links and what is looked for, read one after the other
module _ (old one two mid : State) (spans : List SpanRow) (links : List LinkRow) (soughts : List SoughtRow)
    (has : old.now.schema ≡ archive_schema true) (first : ShowsEach span_query ShowsSpan old one spans)
    (then : one.now.schema ≡ archive_schema true → ShowsEach link_query ShowsLink one two links)
    (last : two.now.schema ≡ archive_schema true → ShowsEach sought_query ShowsSought two mid soughts) where
  has_one : one.now.schema ≡ archive_schema true
  has_one = has_behind span_query select_spans_plain ShowsSpan old one spans has first

  has_two : two.now.schema ≡ archive_schema true
  has_two = has_behind link_query select_links_plain ShowsLink one two links has_one (then has_one)

  pub has_last : mid.now.schema ≡ archive_schema true
  has_last = has_behind sought_query select_soughts_plain ShowsSought two mid soughts has_two (last has_two)

  pub spans_shown : ShowsSpans spans old
  spans_shown = shown_at span_query select_spans_plain ShowsSpan old one spans has first

  pub links_shown : ShowsLinks links old
  links_shown =
      shown_before span_query select_spans_plain ShowsSpan old one spans has first link_query select_links_plain
      ShowsLink links (shown_at link_query select_links_plain ShowsLink one two links has_one (then has_one))

  pub soughts_shown : ShowsSoughts soughts old
  soughts_shown =
      shown_before span_query select_spans_plain ShowsSpan old one spans has first sought_query select_soughts_plain
      ShowsSought soughts
      (shown_before link_query select_links_plain ShowsLink one two links has_one (then has_one) sought_query
      select_soughts_plain ShowsSought soughts
      (shown_at sought_query select_soughts_plain ShowsSought two mid soughts has_two (last has_two)))

  pub rows_shown : (b : Bool) (read : ReadRows) → ShowsRead b read mid mid → ShowsRead b read old old
  rows_shown b read shows =
      read_before span_query select_spans_plain ShowsSpan old one spans has first b read
      (read_before link_query select_links_plain ShowsLink one two links has_one (then has_one) b read
      (read_before sought_query select_soughts_plain ShowsSought two mid soughts has_two (last has_two) b read shows))
