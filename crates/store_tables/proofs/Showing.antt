-- What plain queries show, one after the other: each leaves the connection as it was, so that all show the same tables.
use Rattle.std.proofs.Common.{◌≡◌, ◌∙◌, ℕ, Bool, true, false, List, [], ◌∷◌, Ok, refl, sym, ap, subst}
use Rattle.stored_lines.specs.Line.{Label}
use Rattle.receipts.specs.declared.answer.Receipt.{Receipt}
use Rattle.sqlite.specs.Clock.{timed}
use Rattle.sqlite.specs.Effect.{Database}
use Rattle.sqlite.specs.Listing.{IsSourceOf, reads_listing, understood}
use Rattle.sqlite.specs.Order.{Row}
use Rattle.sqlite.specs.State.{IsUnchanged, Shown, ShowsRows, State}
use Rattle.sqlite.proofs.Callers.{IsPlain, unchanged_then}
use Rattle.store_tables.specs.Conversion.{EachWith, IsReadAs}
use Rattle.store_tables.specs.Looking.{meta_query}
use Rattle.store_tables.specs.Prepared.{
  batch_query,
  record_query,
  line_query,
  pack_query,
  receipt_query,
  slip_query,
  slip_line_query,
}
use Rattle.store_tables.specs.Reading.{ReadRows}
use Rattle.store_tables.specs.Rows.{BatchRow, SlipRow}
use Rattle.store_tables.specs.Schema.{archive_schema}
use Rattle.store_tables.specs.Showing.{
  ShowsBatch,
  ShowsEach,
  ShowsHistory,
  ShowsLine,
  ShowsLines,
  ShowsMeta,
  ShowsPack,
  ShowsRead,
  ShowsReceipt,
  ShowsRecord,
  ShowsRecords,
  ShowsSides,
  ShowsSlip,
  ShowsSlipLine,
  ShowsSlipPack,
}
use Rattle.store_tables.proofs.Queries.{plain_under, unchanged_by}
use Rattle.store_tables.proofs.PackTexts.{select_lines_plain, select_packs_plain}
use Rattle.store_tables.proofs.Texts.{
  select_batches_plain,
  select_meta_plain,
  select_receipts_plain,
  select_records_plain,
  select_slip_lines_plain,
  select_slips_plain,
}

-- a plain query between two states shows the same between two others that see the same
pub shown_between : (sql : List ℕ) (params : Row) (x a b y : State) (rows : List Row)
    → IsPlain (understood a.now.schema sql) → IsUnchanged x a → IsUnchanged b y → Shown sql params a b rows
    → Shown sql params x y rows
unfolding Shown
shown_between sql params x a b y rows plain before after h =
    let none = (subst IsPlain h.1.is plain).0 in
    let full = timed params h.0.formats h.1.now in
    let it = subst (ShowsRows a b sql h.0 full rows) none h.2 in
    let same = before.0.now_is in (
      h.0,
      record {
        is = subst (λ (d : Database). understood d.schema sql ≡ Ok h.0) same h.1.is;
        whole = h.1.whole;
        given = h.1.given;
        now = h.1.now;
      },
      subst (ShowsRows x y sql h.0 full rows) (sym none) (
        it.0,
        subst (λ (d : Database). IsSourceOf (reads_listing d.schema sql) d it.0) same it.1,
        it.2,
        unchanged_then x b y (unchanged_then x a b before it.3) after,
      ),
    )

module _ {Y : Type 0} (sql : List ℕ)
    (plain : (has_spans : Bool) → IsPlain (understood (archive_schema has_spans) sql)) (Shows : Row → Y → Type 0) where
  pub unchanged_each : (old new : State) (items : List Y) (has_spans : Bool) → old.now.schema ≡ archive_schema has_spans
      → ShowsEach sql Shows old new items → IsUnchanged old new
  unchanged_each old new items has_spans has h =
      unchanged_by sql [] old new h.0 (plain_under sql old plain has_spans has) h.1

  pub each_between : (x a b y : State) (items : List Y) (has_spans : Bool) → a.now.schema ≡ archive_schema has_spans
      → IsUnchanged x a
      → IsUnchanged b y → ShowsEach sql Shows a b items → ShowsEach sql Shows x y items
  each_between x a b y items has_spans has before after h =
      (h.0, shown_between sql [] x a b y h.0 (plain_under sql a plain has_spans has) before after h.1, h.2)

-- what is read as the items shows them
items_of : {X Y : Type 0} (shown : X → Row) (read : X → Y) (Shows : Row → Y → Type 0) (all : List Row)
    (items : List Y) → EachWith (IsReadAs shown read Shows) all items → EachWith Shows all items
items_of shown read Shows [] [] h = tt
items_of shown read Shows [] (y ∷ ys) h = absurd h
items_of shown read Shows (x ∷ xs) [] h = absurd h
items_of shown read Shows (x ∷ xs) (y ∷ ys) h = (h.0.1, items_of shown read Shows xs ys h.1)

pub shows_each : {X Y : Type 0} (shown : X → Row) (read : X → Y) (Shows : Row → Y → Type 0) (sql : List ℕ)
    (old new : State) (items : List Y) → (all : List Row) × Shown sql [] old new all
    × EachWith (IsReadAs shown read Shows) all items → ShowsEach sql Shows old new items
shows_each shown read Shows sql old new items h = (h.0, h.1, items_of shown read Shows h.0 items h.2)

-- the state that a query left sees itself
pub seen_after : (old new : State) → IsUnchanged old new → IsUnchanged new new
seen_after old new h = (
  record { was_open = h.0.is_open; is_open = h.0.is_open; now_is = refl; committed_is = refl; mode = refl },
  record { changes = refl; last_rowid = refl },
  refl,
)

pub seen_before : (old new : State) → IsUnchanged old new → IsUnchanged old old
seen_before old new h = (
  record { was_open = h.0.was_open; is_open = h.0.was_open; now_is = refl; committed_is = refl; mode = refl },
  record { changes = refl; last_rowid = refl },
  refl,
)

pub has_after : (old new : State) (has_spans : Bool) → IsUnchanged old new → old.now.schema ≡ archive_schema has_spans
    → new.now.schema ≡ archive_schema has_spans
has_after old new has_spans h has = ap (λ (d : Database). d.schema) h.0.now_is ∙ has

pub shows_records : (old one new : State) (batches : List BatchRow) (records : List (ℕ × ℕ)) (has_spans : Bool)
    → old.now.schema ≡ archive_schema has_spans → ShowsEach batch_query ShowsBatch old one batches
    → (one.now.schema ≡ archive_schema has_spans → ShowsEach record_query ShowsRecord one new records)
    → ShowsRecords batches records old new
shows_records old one new batches records has_spans has a b =
    let kept_one = unchanged_each batch_query select_batches_plain ShowsBatch old one batches has_spans has a in
    let has_one = has_after old one has_spans kept_one has in
    let shows_last = b has_one in
    let kept_last = unchanged_each record_query select_records_plain ShowsRecord one new records has_spans has_one
    shows_last in
    record {
      batches_shown = each_between batch_query select_batches_plain ShowsBatch old old one new batches has_spans has
          (seen_before old one kept_one) kept_last a;
      records_shown = each_between record_query select_records_plain ShowsRecord old one new new records has_spans
          has_one kept_one (seen_after one new kept_last) shows_last;
    }

-- what is shown of the sides of slips, of whichever schema
pub sides_between : (b has_spans : Bool) (x a c y : State) (lines : List (ℕ × (Bool × (ℕ × (ℕ × Label)))))
    → a.now.schema ≡ archive_schema b → IsUnchanged x a → IsUnchanged c y → ShowsSides has_spans lines a c
    → ShowsSides has_spans lines x y
sides_between b false x a c y lines has before after h =
    each_between slip_line_query select_slip_lines_plain ShowsSlipLine x a c y lines b has before after h
sides_between b true x a c y lines has before after h = (
  h.0,
  each_between slip_line_query select_slip_lines_plain ShowsSlipPack x a c y h.0 b has before after h.1,
  h.2,
)

unchanged_sides : (has_spans : Bool) (old new : State) (lines : List (ℕ × (Bool × (ℕ × (ℕ × Label)))))
    → old.now.schema ≡ archive_schema has_spans → ShowsSides has_spans lines old new → IsUnchanged old new
unchanged_sides false old new lines has h =
    unchanged_each slip_line_query select_slip_lines_plain ShowsSlipLine old new lines false has h
unchanged_sides true old new lines has h =
    unchanged_each slip_line_query select_slip_lines_plain ShowsSlipPack old new h.0 true has h.1

pub shows_history : (old one two new : State) (receipts : List (List ℕ × Receipt)) (slips : List SlipRow)
    (slip_lines : List (ℕ × (Bool × (ℕ × (ℕ × Label))))) (has_spans : Bool) → old.now.schema ≡ archive_schema has_spans
    → ShowsEach receipt_query ShowsReceipt old one receipts
    → (one.now.schema ≡ archive_schema has_spans → ShowsEach slip_query ShowsSlip one two slips)
    → (two.now.schema ≡ archive_schema has_spans → ShowsSides has_spans slip_lines two new)
    → ShowsHistory has_spans receipts slips slip_lines old new
shows_history old one two new receipts slips slip_lines has_spans has a b c =
    let kept_one = unchanged_each receipt_query select_receipts_plain ShowsReceipt old one receipts has_spans has a in
    let has_one = has_after old one has_spans kept_one has in
    let shows_two = b has_one in
    let kept_two = unchanged_each slip_query select_slips_plain ShowsSlip one two slips has_spans has_one shows_two in
    let has_two = has_after one two has_spans kept_two has_one in
    let shows_last = c has_two in
    let kept_last = unchanged_sides has_spans two new slip_lines has_two shows_last in
    let rest = unchanged_then one two new kept_two kept_last in
    let two_steps = unchanged_then old one two kept_one kept_two in
    record {
      receipts_shown = each_between receipt_query select_receipts_plain ShowsReceipt old old one new receipts has_spans
          has (seen_before old one kept_one) rest a;
      slips_shown = each_between slip_query select_slips_plain ShowsSlip old one two new slips has_spans has_one
          kept_one kept_last shows_two;
      slip_lines_shown = sides_between has_spans has_spans old two new new slip_lines has_two two_steps
          (seen_after two new kept_last) shows_last;
    }

-- records between two states are so between two others that see the same
records_between : (x a b y : State) (batches : List BatchRow) (records : List (ℕ × ℕ)) (has_spans : Bool)
    → a.now.schema ≡ archive_schema has_spans → IsUnchanged x a → IsUnchanged b y → ShowsRecords batches records a b
    → ShowsRecords batches records x y
records_between x a b y batches records has_spans has before after h = record {
  batches_shown = each_between batch_query select_batches_plain ShowsBatch x a b y batches has_spans has before after
      h.batches_shown;
  records_shown = each_between record_query select_records_plain ShowsRecord x a b y records has_spans has before after
      h.records_shown;
}

-- and so are their lines, of whichever schema they are read
pub lines_between : (b has_spans : Bool) (x a c y : State) (lines : List (ℕ × (ℕ × Label)))
    (packs : List (ℕ × List (ℕ × Label))) → a.now.schema ≡ archive_schema b → IsUnchanged x a → IsUnchanged c y
    → ShowsLines has_spans lines packs a c → ShowsLines has_spans lines packs x y
lines_between b false x a c y lines packs has before after h =
    (each_between line_query select_lines_plain ShowsLine x a c y lines b has before after h.0, h.1)
lines_between b true x a c y lines packs has before after h =
    (each_between pack_query select_packs_plain ShowsPack x a c y packs b has before after h.0, h.1)

pub unchanged_lines : (has_spans : Bool) (old new : State) (lines : List (ℕ × (ℕ × Label)))
    (packs : List (ℕ × List (ℕ × Label))) → old.now.schema ≡ archive_schema has_spans
    → ShowsLines has_spans lines packs old new → IsUnchanged old new
unchanged_lines false old new lines packs has h =
    unchanged_each line_query select_lines_plain ShowsLine old new lines false has h.0
unchanged_lines true old new lines packs has h =
    unchanged_each pack_query select_packs_plain ShowsPack old new packs true has h.0

history_between : (x a b y : State) (receipts : List (List ℕ × Receipt)) (slips : List SlipRow)
    (slip_lines : List (ℕ × (Bool × (ℕ × (ℕ × Label))))) (has_spans : Bool) → a.now.schema ≡ archive_schema has_spans
    → IsUnchanged x a
    → IsUnchanged b y → ShowsHistory has_spans receipts slips slip_lines a b
    → ShowsHistory has_spans receipts slips slip_lines x y
history_between x a b y receipts slips slip_lines has_spans has before after h = record {
  receipts_shown = each_between receipt_query select_receipts_plain ShowsReceipt x a b y receipts has_spans has before
      after
      h.receipts_shown;
  slips_shown = each_between slip_query select_slips_plain ShowsSlip x a b y slips has_spans has before after
      h.slips_shown;
  slip_lines_shown = sides_between has_spans has_spans x a b y slip_lines has before after h.slip_lines_shown;
}

-- all that is read, part by part
pub shows_read : (old one two three new : State) (read : ReadRows) (society : List ℕ) (has_spans : Bool)
    → old.now.schema ≡ archive_schema has_spans
    → ShowsEach meta_query ShowsMeta old one ((read.next, society) ∷ [])
    → (one.now.schema ≡ archive_schema has_spans → ShowsRecords read.batches read.records one two)
    → (two.now.schema ≡ archive_schema has_spans → ShowsLines has_spans read.lines read.packs two three)
    → (three.now.schema ≡ archive_schema has_spans
    → ShowsHistory has_spans read.receipts read.slips read.slip_lines three new)
    → ShowsRead has_spans read old new
shows_read old one two three new read society has_spans has a b c d =
    let kept_one = unchanged_each meta_query select_meta_plain ShowsMeta old one _ has_spans has a in
    let has_one = has_after old one has_spans kept_one has in
    let shows_two = b has_one in
    let records_kept = unchanged_each record_query select_records_plain ShowsRecord one two read.records has_spans
    has_one shows_two.records_shown in
    let has_two = has_after one two has_spans records_kept has_one in
    let shows_three = c has_two in
    let lines_kept = unchanged_lines has_spans two three read.lines read.packs has_two shows_three in
    let has_three = has_after two three has_spans lines_kept has_two in
    let shows_last = d has_three in
    let kept_last = unchanged_each slip_query select_slips_plain ShowsSlip three new read.slips has_spans has_three
    shows_last.slips_shown in
    let after_two = unchanged_then two three new lines_kept kept_last in
    let after_one = unchanged_then one two new records_kept after_two in
    let to_two = unchanged_then old one two kept_one records_kept in
    let to_three = unchanged_then old two three to_two lines_kept in
    record {
      meta = (
        society,
        each_between meta_query select_meta_plain ShowsMeta old old one new _ has_spans has
            (seen_before old one kept_one) after_one a,
      );
      records = records_between old one two new read.batches read.records has_spans has_one kept_one after_two
          shows_two;
      lines = lines_between has_spans has_spans old two three new read.lines read.packs has_two to_two kept_last
          shows_three;
      history = history_between old three new new read.receipts read.slips read.slip_lines has_spans has_three to_three
          (seen_after three new kept_last) shows_last;
    }

unchanged_back : (old new : State) → IsUnchanged old new → IsUnchanged new old
unchanged_back old new h = (
  record {
    was_open = h.0.is_open;
    is_open = h.0.was_open;
    now_is = sym h.0.now_is;
    committed_is = sym h.0.committed_is;
    mode = sym h.0.mode;
  },
  record { changes = sym h.1.changes; last_rowid = sym h.1.last_rowid },
  sym h.2,
)

-- what the queries show until the last, they show of the tables as they are
pub read_at : (old new : State) (read : ReadRows) (has_spans : Bool) → old.now.schema ≡ archive_schema has_spans
    → ShowsRead has_spans read old new → ShowsRead has_spans read old old
read_at old new read has_spans has h =
    let kept = unchanged_each record_query select_records_plain ShowsRecord old new read.records has_spans has
    h.records.records_shown in
    let back = unchanged_back old new kept in
    let same = seen_before old new kept in
    record {
      meta = (
        h.meta.0,
        each_between meta_query select_meta_plain ShowsMeta old old new old _ has_spans has same back h.meta.1,
      );
      records = records_between old old new old read.batches read.records has_spans has same back h.records;
      lines = lines_between has_spans has_spans old old new old read.lines read.packs has same back h.lines;
      history = history_between old old new old read.receipts read.slips read.slip_lines has_spans has same back
          h.history;
    }
