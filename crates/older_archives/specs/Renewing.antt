-- What is written to make rows of the second version of those of the first. Rules of our own.
use Rattle.std.specs.Prelude.{ℕ, ◌≡◌, ◌⊎◌, List, [], ◌∷◌, Option}
use Rattle.gedcom_date.specs.declared.value.Span.{Span}
use Rattle.stored_lines.specs.Line.{Label}
use Rattle.records.specs.Stored.{stored}
use Rattle.archive_state.specs.Content.{Content}
use Rattle.date_spans.specs.Spans.{IsSpanOf, date_in}
use Rattle.older_archives.specs.Anew.{anew}
use Rattle.older_archives.specs.Old.{OldRecord, WasKeptAs}
use Rattle.sqlite.specs.State.{State}
use Rattle.sqlite.specs.Tree.{Trees}
use Rattle.store_tables.specs.Calls.{Good}
use Rattle.store_tables.specs.Rows.{
  Rows,
  SlipSide,
  with_changed_lines,
  with_later_tables,
  with_version,
}
use Rattle.store_tables.specs.Sides.{with_slip_sides}
use Rattle.store_rows.specs.Links.{KeepsLinks, with_links}
use Rattle.store_rows.specs.Meaning.{AllShallow, Means}
use Rattle.store_rows.specs.Sought.{KeepsSought, Sought, sought_of, with_sought_if}
use Rattle.store_rows.specs.Spans.{IsDated, KeepsSpans, with_span_if}

-- a record as it is kept today, the span of its date, and what it is looked for by
pub record Anew : Type 0 where
  pub lines : List (ℕ × Label)
  pub span : Option Span
  pub sought : Option Sought

pub record RecordAnew : Type 0 where
  pub number : ℕ
  pub anew : Anew

-- the old and the new records of the numbers of a slip, as they are kept today
pub record SlipAnew : Type 0 where
  pub number : ℕ
  pub sides : List SlipSide

-- all records and all slips
pub record Renewal : Type 0 where
  pub records : List RecordAnew
  pub slips : List SlipAnew

-- what a record of that time that was kept as these lines is today
pub record IsAnewOf (lines : List (ℕ × Label)) (a : Anew) : Type 0 where
  pub kept : (o : OldRecord) → WasKeptAs lines o → a.lines ≡ stored (anew o)
  pub spanned : (o : OldRecord) → WasKeptAs lines o → IsSpanOf (date_in (anew o)) a.span
  pub sought : (o : OldRecord) → WasKeptAs lines o → a.sought ≡ sought_of (anew o)

-- ---- what is written
-- the lines of a record
abbrev pub with_lines_anew : RecordAnew → Rows → Rows
with_lines_anew r rows = with_changed_lines r.number r.anew.lines rows

-- what goes with a record of a number: its span, what it is looked for by, and its links
abbrev pub with_later_anew : ℕ → Anew → Rows → Rows
with_later_anew n a rows = with_links n a.lines (with_sought_if n a.sought (with_span_if n a.span rows))

abbrev pub with_record_anew : RecordAnew → Rows → Rows
with_record_anew r rows = with_later_anew r.number r.anew (with_lines_anew r rows)

abbrev pub with_records_anew : List RecordAnew → Rows → Rows
with_records_anew [] rows = rows
with_records_anew (r ∷ rs) rows = with_records_anew rs (with_record_anew r rows)

abbrev pub with_slip_anew : SlipAnew → Rows → Rows
with_slip_anew s rows = with_slip_sides s.number s.sides rows

abbrev pub with_slips_anew : List SlipAnew → Rows → Rows
with_slips_anew [] rows = rows
with_slips_anew (s ∷ ss) rows = with_slips_anew ss (with_slip_anew s rows)

abbrev pub with_renewal : Renewal → Rows → Rows
with_renewal r rows = with_slips_anew r.slips (with_records_anew r.records (with_version 2 (with_later_tables rows)))

-- ---- what is made by that
-- rows of the second version that mean the content, with its spans, what is looked for and its links; society and
-- batches are those of before
pub record IsRenewed (rows : Rows) (c : Content) (after : Rows) : Type 0 where
  pub dated : IsDated after
  pub means : Means after c
  pub shallow : AllShallow c
  pub spans : KeepsSpans after c
  pub soughts : KeepsSought after c
  pub links : KeepsLinks after c
  pub society : after.society ≡ rows.society
  pub batches : after.batches ≡ rows.batches

-- whatever a crash may leave is good, and has these rows, or those
abbrev pub LeavesEither : State → Rows → Rows → Type 0
LeavesEither s rows after = (t : Trees) → s.may_leave t → Good rows t ⊎ Good after t

-- the same of these rows, or of such as are renewed
abbrev pub LeavesRenewed : State → Rows → Content → Type 0
LeavesRenewed s rows c = (t : Trees) → s.may_leave t → Good rows t
    ⊎ ((after : Rows) × IsRenewed rows c after × Good after t)
