-- An import that is open, and how far its rows are written. Rules of our own.
use Rattle.std.specs.Prelude.{
  ℕ,
  ◌≡◌,
  ◌-◌,
  true,
  List,
  ◌++◌,
  map,
  take,
  drop,
  length,
  Option,
}
use Rattle.std.specs.List.{flat_map}
use Rattle.date_spans.specs.Spans.{IsSpanOf, date_in}
use Rattle.gedcom_date.specs.declared.value.Span.{Span}
use Rattle.record_shapes.specs.Lists.{EachOf}
use Rattle.archive_state.specs.Changes.{Changes}
use Rattle.archive_state.specs.declared.changes.Numbered.{Numbered}
use Rattle.store_rows.specs.Shallow.{IsShallowPut}
use Rattle.store_rows.specs.Spans.{AreDrawn, Drawn}
use Rattle.store_rows.specs.Writing.{kind_word}
use Rattle.sqlite.specs.State.{State}
use Rattle.store_tables.specs.Calls.{Inside}
use Rattle.store_tables.specs.Rows.{LinkRow, Rows, SoughtRow}
use Rattle.staged_rows.specs.Removing.{links_among}
use Rattle.staged_rows.specs.Staging.{
  AreNew,
  StagedRow,
  a_link,
  a_sought,
  a_span,
  lines_of_put,
  links_of,
  record_of,
  sought_row,
  span_row,
  with_staged,
}
use Rattle.staging.specs.declared.cursor.Cursor.{Cursor}
use Rattle.staging.specs.declared.dated.Dated.{Dated}
use Rattle.staging.specs.declared.later.Later.{Later}

-- an import that is open: its batch, what it changes, and which of its rows are still to be written
pub record Import : Type 0 where
  pub batch : ℕ
  pub changes : Changes
  pub left : List StagedRow

-- the links of its records that are written: they are written in their order, and so many are left
abbrev pub links_written : Import → List LinkRow
links_written i = take (length (links_of i.changes.puts) - length (links_among i.left)) (links_of i.changes.puts)

-- calls in a transaction over tables that have spans: they write these rows of an import, of which no link was there,
-- and commit nothing
abbrev pub FollowsStaged : State → State → List StagedRow → Type 0
FollowsStaged old new rs = (rows : Rows) → rows.has_spans ≡ true → Inside old rows
    → Inside new (with_staged rs rows) × (new.committed ≡ old.committed) × AreNew rs rows

-- ---- the rows of `record` of what it puts, without their batch
abbrev pub new_record : Numbered → ℕ × List ℕ
new_record p = (p.number, kind_word p.«record»)

-- ---- the links of the records that it puts, as pairs of the number that is named and the one of the record
abbrev pub link_of : ℕ × ℕ → LinkRow
link_of pair = record { target = pair.0; no = pair.1 }

abbrev pub pairs_as_links : List (ℕ × ℕ) → List LinkRow
pairs_as_links = map link_of

-- ---- what they are looked for by
abbrev pub row_of_sought_row : SoughtRow → StagedRow
row_of_sought_row s = a_sought s.no (s.text, s.target)

-- ---- the spans of the records that it puts
abbrev pub row_of_span : Dated → StagedRow
row_of_span d = a_span d.number d.span

-- those of the records that have a date, in their order
abbrev pub AreDated : List Numbered → List Dated → Type 0
AreDated ps ds = (drawn : Drawn) × AreDrawn ps drawn × (map row_of_span ds ≡ flat_map span_row drawn)

-- the span of a number is added, where there is one
abbrev pub IsOneMore : ℕ → Option Span → List Dated → List Dated → Type 0
IsOneMore n span old new = map row_of_span new ≡ map row_of_span old ++ span_row (n, span)

-- the span of a record is added, where it has a date
abbrev pub DrawsOne : Numbered → List Dated → List Dated → Type 0
DrawsOne p old new = (span : Option Span) × IsSpanOf (date_in p.«record») span × IsOneMore p.number span old new

-- ---- the rows that come after the lines
pub record AreLater (ps : List Numbered) (later : Later) : Type 0 where
  pub links : later.links.items ≡ links_of ps
  pub soughts : map row_of_sought_row later.soughts.items ≡ flat_map sought_row ps
  pub spans : AreDated ps later.spans.items

-- ---- how far the rows are written
-- those that come after the lines
abbrev pub later_left : Later → Cursor → List StagedRow
later_left later cursor = map a_link (drop cursor.links later.links.items)
    ++ (map row_of_sought_row (drop cursor.soughts later.soughts.items)
    ++ map row_of_span (drop cursor.spans later.spans.items))

abbrev pub left_of : ℕ → List Numbered → Later → Cursor → List StagedRow
left_of batch ps later cursor = map (record_of batch) (drop cursor.rows ps)
    ++ (map lines_of_put (drop cursor.done ps) ++ later_left later cursor)

-- records whose lines are written can be read again
abbrev pub IsPlaced : List Numbered → Cursor → Type 0
IsPlaced ps cursor = EachOf IsShallowPut (take cursor.done ps)

-- a row more that comes after the lines
abbrev pub GoesOnLater : Cursor → Cursor → Type 0
GoesOnLater old new = new ≡ record old { links = new.links; soughts = new.soughts; spans = new.spans }
