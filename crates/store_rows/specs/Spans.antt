-- The spans of an archive's records: the first and the last day that the date of a record may mean. What the rows have
-- of them, and what the changes of a request make of these. Rules of our own.
use Rattle.std.specs.Prelude.{◌≡◌, ◌==◌, ℕ, true, cond, List, [], ◌∷◌, Option, Some, None}
use Rattle.archive_state.specs.Changes.{Changes}
use Rattle.archive_state.specs.Content.{Content}
use Rattle.std.specs.FinMap.{get}
use Rattle.archive_state.specs.declared.changes.Numbered.{Numbered}
use Rattle.date_spans.specs.Spans.{IsSpanOf, date_in}
use Rattle.gedcom_date.specs.declared.value.Span.{Span}
use Rattle.record_kinds.specs.declared.record.Record.{Record}
use Rattle.sqlite.specs.State.{State}
use Rattle.store_tables.specs.Calls.{Inside}
use Rattle.store_tables.specs.Conversion.{EachWith}
use Rattle.store_tables.specs.Rows.{Rows, SpanRow, with_span, without_span}
use Rattle.store_rows.specs.Links.{with_all_links}
use Rattle.store_rows.specs.Sought.{with_all_sought, without_all_sought}
use Rattle.store_rows.specs.Writing.{with_changes}

-- rows of the second version: the one that this program writes, with a table of spans
pub record IsDated (rows : Rows) : Type 0 where
  pub version : rows.version ≡ 2
  pub has_spans : rows.has_spans ≡ true

-- the span of a number, where it has a row
abbrev pub span_at : ℕ → List SpanRow → Option Span
span_at n [] = None
span_at n (s ∷ ss) = cond (s.no == n) (Some (record { lo = s.lo; hi = s.hi })) (span_at n ss)

-- a record has a span where it has a date, and that of its date
abbrev pub IsSpanned : Option Record → Option Span → Type 0
IsSpanned None span = Unit {0}
IsSpanned (Some r) span = IsSpanOf (date_in r) span

-- each record of the content has its span in the rows; what they have of numbers without a record is not looked at
abbrev pub KeepsSpans : Rows → Content → Type 0
KeepsSpans rows c = (n : ℕ) → IsSpanned (get c.records n) (span_at n rows.spans)

-- ---- what is written of them
-- numbers in an order, each with its span, where there is one
abbrev pub Drawn : Type 0
Drawn = List (ℕ × Option Span)

abbrev pub IsDrawn : Numbered → ℕ × Option Span → Type 0
IsDrawn p d = (d.0 ≡ p.number) × IsSpanOf (date_in p.«record») d.1

-- the spans of the records that are put, in their order
abbrev pub AreDrawn : List Numbered → Drawn → Type 0
AreDrawn = EachWith IsDrawn

abbrev pub with_span_if : ℕ → Option Span → Rows → Rows
with_span_if n None rows = rows
with_span_if n (Some span) rows = with_span n span.lo span.hi rows

-- each in place of the one that its number had
abbrev pub with_drawn : Drawn → Rows → Rows
with_drawn [] rows = rows
with_drawn (d ∷ ds) rows = with_drawn ds (with_span_if d.0 d.1 (without_span d.0 rows))

abbrev pub without_all_spans : List ℕ → Rows → Rows
without_all_spans [] rows = rows
without_all_spans (n ∷ ns) rows = without_all_spans ns (without_span n rows)

-- the spans of what is removed, and what it is looked for by, which go first, since each is of a row in `record`
abbrev pub without_all_of : List ℕ → Rows → Rows
without_all_of ns rows = without_all_sought ns (without_all_spans ns rows)

-- the spans of what is put, what it is looked for by, and its links
abbrev pub with_all_of : List Numbered → Drawn → Rows → Rows
with_all_of puts drawn rows = with_all_links puts (with_all_sought puts (with_drawn drawn rows))

-- all changes of a request, with the spans of what it puts, with what this is looked for by, and with its links
abbrev pub with_dated_changes : Changes → Drawn → Rows → Rows
with_dated_changes changes drawn rows =
    with_all_of changes.puts drawn (with_changes changes (without_all_of changes.removals rows))

-- calls in a transaction over tables that have spans: they write the changes, with the spans of what is put, and commit
-- nothing
abbrev pub FollowsDrawn : State → State → Changes → Type 0
FollowsDrawn old new changes = (rows : Rows) → rows.has_spans ≡ true → Inside old rows
    → (drawn : Drawn) × AreDrawn changes.puts drawn × Inside new (with_dated_changes changes drawn rows)
    × (new.committed ≡ old.committed)
