-- The rows of an import that is staged: they are of a batch that is open, until all of them are there and it is closed.
-- Rules of our own.
use Rattle.std.specs.Prelude.{
  ℕ,
  ◌≡◌,
  ◌==◌,
  true,
  false,
  not,
  List,
  [],
  ◌∷◌,
  ◌++◌,
  map,
  take,
  Option,
  None,
  Some,
  option_map,
  unwrap_or,
}
use Rattle.std.specs.List.{AllByRecursion, flat_map, list_any}
use Rattle.stored_lines.specs.Line.{Label}
use Rattle.records.specs.Stored.{stored}
use Rattle.archive_state.specs.Changes.{Changes}
use Rattle.archive_state.specs.declared.changes.Kept.{Kept}
use Rattle.archive_state.specs.declared.changes.Numbered.{Numbered}
use Rattle.receipts.specs.declared.answer.Answer.{Answer}
use Rattle.record_shapes.specs.Lists.{EachOf}
use Rattle.store_tables.specs.Rows.{
  Rows,
  BatchRow,
  RecordRow,
  LineRow,
  PackRow,
  LinkRow,
  SoughtRow,
  SpanRow,
  put_pair,
  with_batch,
  with_closed,
  with_link,
  with_next,
  with_pack,
  with_record_row,
  with_sought,
  with_span,
}
use Rattle.gedcom_date.specs.declared.value.Span.{Span}
use Rattle.store_rows.specs.Links.{has_link}
use Rattle.store_rows.specs.Meaning.{is_closed}
use Rattle.store_rows.specs.Sought.{Sought, sought_of}
use Rattle.store_rows.specs.Spans.{Drawn}
use Rattle.store_rows.specs.Writing.{kind_word, with_kept_written}

-- one row of an import: of `record`, all lines of a number, a link, what a number is looked for by, or the span of a
-- number
pub data StagedRow : Type 0 where
  a_record : RecordRow → StagedRow
  a_pack : ℕ → List (ℕ × Label) → StagedRow
  a_link : LinkRow → StagedRow
  a_sought : ℕ → Sought → StagedRow
  a_span : ℕ → Span → StagedRow

-- the numbers of records
abbrev pub numbers_of : List Numbered → List ℕ
numbers_of = map (λ (p : Numbered). p.number)

abbrev pub record_of : ℕ → Numbered → StagedRow
record_of batch p = a_record (record { no = p.number; kind = kind_word p.«record»; batch = batch })

-- the row with all lines of a number
abbrev pub lines_of_put : Numbered → StagedRow
lines_of_put p = a_pack p.number (stored p.«record»)

-- the span of a number, where there is one
abbrev pub span_row : ℕ × Option Span → List StagedRow
span_row d = unwrap_or (option_map (λ span. a_span d.0 span ∷ []) d.1) []

-- what a number is looked for by, where it is looked for
abbrev pub row_of_sought : ℕ → Option Sought → List StagedRow
row_of_sought n found = unwrap_or (option_map (λ s. a_sought n s ∷ []) found) []

abbrev pub sought_row : Numbered → List StagedRow
sought_row p = row_of_sought p.number (sought_of p.«record»)

-- ---- the links of an import
-- the link from a number to another one, where there is one, put to others in its order, once
abbrev pub with_target : ℕ → Option ℕ → List LinkRow → List LinkRow
with_target n None ls = ls
with_target n (Some target) ls = put_pair (record { target = target; no = n }) ls

-- those of the lines of a number
abbrev pub with_targets : ℕ → List (ℕ × Label) → List LinkRow → List LinkRow
with_targets n [] ls = ls
with_targets n (l ∷ more) ls = with_targets n more (with_target n l.1.target ls)

-- those of records
abbrev pub with_names : List Numbered → List LinkRow → List LinkRow
with_names [] ls = ls
with_names (p ∷ ps) ls = with_names ps (with_targets p.number (stored p.«record») ls)

abbrev pub links_of : List Numbered → List LinkRow
links_of ps = with_names ps []

-- ---- all rows
-- those that come after the lines: the links, what is looked for, and the spans
abbrev pub later_rows : List Numbered → Drawn → List StagedRow
later_rows ps drawn = map a_link (links_of ps) ++ (flat_map sought_row ps ++ flat_map span_row drawn)

-- the rows of an import in their order: those of `record`, then those with the lines, and then those that come after
-- the lines
abbrev pub rows_of_import : ℕ → List Numbered → Drawn → List StagedRow
rows_of_import batch ps drawn = map (record_of batch) ps ++ (map lines_of_put ps ++ later_rows ps drawn)

-- ---- what staging makes of the rows of an archive
abbrev pub with_staged_row : StagedRow → Rows → Rows
with_staged_row (a_record r) rows = with_record_row r.no r.kind r.batch rows
with_staged_row (a_pack n ls) rows = with_pack n ls rows
with_staged_row (a_link l) rows = with_link l.target l.no rows
with_staged_row (a_sought n s) rows = with_sought n s.0 s.1 rows
with_staged_row (a_span n span) rows = with_span n span.lo span.hi rows

abbrev pub with_staged : List StagedRow → Rows → Rows
with_staged [] rows = rows
with_staged (r ∷ rs) rows = with_staged rs (with_staged_row r rows)

-- a link that is written was not there: the database takes none twice
abbrev pub IsNewRow : StagedRow → Rows → Type 0
IsNewRow (a_link l) rows = has_link l.target l.no rows.links ≡ false
IsNewRow _ rows = Unit {0}

-- so it is of all these rows, each written after those before it
abbrev pub AreNew : List StagedRow → Rows → Type 0
AreNew [] rows = Unit {0}
AreNew (r ∷ rs) rows = IsNewRow r rows × AreNew rs (with_staged_row r rows)

-- an import is open, and the first so many of its rows are there
abbrev pub with_open_import : ℕ → List Numbered → Drawn → ℕ → Rows → Rows
with_open_import batch ps drawn count rows =
    with_staged (take count (rows_of_import batch ps drawn)) (with_batch batch true rows)

-- an import is published: its batch is closed, the next number is after its numbers, and its answer is kept
abbrev pub with_published : ℕ → Changes → Rows → Rows
with_published batch changes rows = with_kept_written changes.kept (with_next changes.next (with_closed batch rows))

-- ---- what is asked of an import
-- each line, all lines in one row, each span and what each number is looked for by are of a number with a row in
-- `record`, and each such row is of a closed batch
pub record AreClosed (rows : Rows) : Type 0 where
  pub lines : AllByRecursion (λ (l : LineRow). list_any (λ (r : RecordRow). r.no == l.no) rows.records ≡ true)
      rows.lines
  pub packs : AllByRecursion (λ (p : PackRow). list_any (λ (r : RecordRow). r.no == p.no) rows.records ≡ true)
      rows.packs
  pub records : AllByRecursion (λ (r : RecordRow). is_closed r.batch rows.batches ≡ true) rows.records
  pub spans : AllByRecursion (λ (s : SpanRow). list_any (λ (r : RecordRow). r.no == s.no) rows.records ≡ true)
      rows.spans
  pub soughts : AllByRecursion (λ (s : SoughtRow). list_any (λ (r : RecordRow). r.no == s.no) rows.records ≡ true)
      rows.soughts

-- every batch is closed
abbrev pub AreAllClosed : Rows → Type 0
AreAllClosed rows = AllByRecursion (λ (b : BatchRow). not b.is_open ≡ true) rows.batches

-- nothing of an import is there: not its batch, no row of the batch or of a number that it puts, no line or span of
-- one, and nothing that one is looked for by. Of its links some may be there: that is seen when they are written
pub record IsFresh (batch : ℕ) (ps : List Numbered) (rows : Rows) : Type 0 where
  pub unused : list_any (λ (b : BatchRow). b.no == batch) rows.batches ≡ false
  pub records : list_any (λ (r : RecordRow). r.batch == batch) rows.records ≡ false
  pub numbers : EachOf (λ (p : Numbered). list_any (λ (r : RecordRow). r.no == p.number) rows.records ≡ false) ps
  pub lines : EachOf (λ (p : Numbered). list_any (λ (l : LineRow). l.no == p.number) rows.lines ≡ false) ps
  pub packs : EachOf (λ (p : Numbered). list_any (λ (k : PackRow). k.no == p.number) rows.packs ≡ false) ps
  pub spans : EachOf (λ (p : Numbered). list_any (λ (s : SpanRow). s.no == p.number) rows.spans ≡ false) ps
  pub soughts : EachOf (λ (p : Numbered). list_any (λ (s : SoughtRow). s.no == p.number) rows.soughts ≡ false) ps

-- what an import changes: it puts records, and takes none out
abbrev pub import_changes : List Numbered → ℕ → Answer → Option Kept → Changes
import_changes ps next answer kept =
    record { puts = ps; removals = []; next = next; answer = answer; kept = kept; slip = None }

-- an import, staged to its end and published
abbrev pub with_whole_import : ℕ → Changes → Drawn → Rows → Rows
with_whole_import batch changes drawn rows = with_published batch changes
    (with_staged (rows_of_import batch changes.puts drawn) (with_batch batch true rows))
