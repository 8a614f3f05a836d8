-- What is found in the rows of a page, given what an archive answers for each.
use Rattle.std.specs.Prelude.{
  ℕ,
  ◌+◌,
  ◌==◌,
  ◌||◌,
  Bool,
  false,
  List,
  [],
  ◌∷◌,
  ◌++◌,
  length,
  drop,
  slice_get,
  codes,
  decimal,
  Option,
  Some,
  None,
  Result,
  Ok,
  Err,
  if◌then◌else◌,
}
use Rattle.std.specs.List.{flat_map}
use Rattle.record_text.specs.declared.refusal.RefusalKind.TheVariants.{DuplicateEntry}
use Rattle.record_fields.specs.Words.{entry_kind_word}
use Rattle.commands.specs.declared.entry_row.GivenMention.{GivenMention}
use Rattle.table_pages.specs.Sheets.{Sheet}
use Rattle.table_pages.specs.declared.columns.Column.{Column}
use Rattle.table_pages.specs.declared.columns.Column.TheVariants as column
use Rattle.table_pages.specs.declared.fault.FaultKind.{FaultKind}
use Rattle.table_pages.specs.declared.fault.FaultKind.TheVariants.{BeyondHeader}
use Rattle.table_pages.specs.declared.sheet.SheetRow.{SheetRow}
use Rattle.page_entries.specs.Entries.{cell_under, kind_in}
use Rattle.page_entries.specs.Under.{cell_at, counted, mentions}
use Rattle.page_entries.specs.declared.dates.DateOrder.{DateOrder}
use Rattle.page_checks.specs.Cells.{what_of}
use Rattle.page_checks.specs.Findings.{found, maybe}
use Rattle.page_answers.specs.Keys.{have_words, is_among, key_of}
use Rattle.page_answers.specs.declared.answers.RowAnswer.{RowAnswer}
use Rattle.page_checks.specs.declared.cells.Known.{Known}
use Rattle.page_checks.specs.declared.findings.CheckedRow.{CheckedRow}
use Rattle.page_checks.specs.declared.findings.Finding.{Finding}
use Rattle.page_checks.specs.declared.findings.Doubt.TheVariants.{Like, NewPlace}
use Rattle.page_checks.specs.declared.findings.What.TheVariants.{Doubtful, Fault, Refused}
use Rattle.page_answers.specs.declared.keys.Key.{Key}

-- ---- places that are to be made
-- what each path is like
abbrev pub Likes : Type 0
Likes = List ℕ → List (List ℕ)

abbrev pub of_like : List ℕ → List ℕ → List Finding
of_like name path = found (Doubtful Like) name path

-- a path, and those that it is like
abbrev pub of_new : Likes → List ℕ → List ℕ → List Finding
of_new likes name path = found (Doubtful NewPlace) name path ++ flat_map (of_like name) (likes path)

-- of a row for which these are to be made
abbrev pub of_news : Likes → List (List ℕ) → Column → List ℕ → List Finding
of_news likes news column.Place name = flat_map (of_new likes name) news
of_news likes news c name = []

-- ---- cells
-- a cell under a column of a name
abbrev pub under_column : Known → Likes → List (List ℕ) → Column → List ℕ → List ℕ → List Finding
under_column known likes news c name cell = maybe (what_of known c cell) name cell ++ of_news likes news c name

-- the cells under the columns from this place on; a cell that is missing is empty
abbrev pub under_columns : Known → Likes → List (List ℕ) → List (List ℕ) → List (List ℕ) → ℕ → List Column
    → List Finding
under_columns known likes news names cells at [] = []
under_columns known likes news names cells at (c ∷ columns) =
    under_column known likes news c (cell_at names at) (cell_at cells at)
    ++ under_columns known likes news names cells (at + 1) columns

-- of the cells after the last column the first that is not empty
abbrev pub beyond : List (List ℕ) → List Finding
beyond [] = []
beyond (cell ∷ cells) = if length cell == 0 then beyond cells else found (Fault BeyondHeader) [] cell

-- ---- rows
-- no name, or too many
abbrev pub if_uncounted : Result (List GivenMention) FaultKind → List Finding
if_uncounted (Ok names) = []
if_uncounted (Err kind) = found (Fault kind) [] []

abbrev pub of_names : Sheet → SheetRow → List Finding
of_names sheet row = if_uncounted (counted (mentions sheet.columns 0 row.cells))

-- kind, page and item, with spaces between
abbrev pub key_shown : Key → List ℕ
key_shown key = entry_kind_word key.kind ++ (codes " " ++ (key.page ++ (codes " " ++ decimal key.item.number)))

abbrev pub of_taken : Key → List Finding
of_taken key = found (Refused DuplicateEntry) [] (key_shown key)

-- another entry has the key
abbrev pub of_key : Option Key → Bool → List Finding
of_key None is_taken = []
of_key (Some key) is_taken = if is_taken then of_taken key else []

abbrev pub known_of : Option DateOrder → Sheet → RowAnswer → SheetRow → Known
known_of order sheet answer row = record {
  order = order;
  kind = kind_in (cell_under sheet row column.Kind);
  place = answer.place;
}

-- all that is found in a row, by its columns, and then what no column is to blame for
abbrev pub findings : Option DateOrder → Sheet → RowAnswer → Likes → Option Key → Bool → SheetRow → List Finding
findings order sheet answer likes key is_repeated row =
    under_columns (known_of order sheet answer row) likes answer.news sheet.names row.cells 0 sheet.columns
    ++ (beyond (drop (length sheet.columns) row.cells) ++ (of_names sheet row
    ++ of_key key (answer.is_taken || is_repeated)))

abbrev pub checked_row : Option DateOrder → Sheet → RowAnswer → Likes → Option Key → Bool → SheetRow → CheckedRow
checked_row order sheet answer likes key is_repeated row =
    record { number = row.number; findings = findings order sheet answer likes key is_repeated row }

-- ---- all rows
-- where there is no answer, nothing is refused
abbrev pub or_nothing : Option RowAnswer → RowAnswer
or_nothing None = record { place = None; is_taken = false; news = [] }
or_nothing (Some answer) = answer

abbrev pub answer_at : List RowAnswer → ℕ → RowAnswer
answer_at answers at = or_nothing (slice_get answers at)

-- one of the rows before has the key of this row, whatever else is wrong with either
abbrev pub is_repeated : Sheet → List SheetRow → SheetRow → Bool
is_repeated sheet before row = is_among (have_words sheet before) (key_of sheet row)

-- the rows from this place on, after those before
abbrev pub checked_rows : Option DateOrder → Sheet → List RowAnswer → Likes → ℕ → List SheetRow → List SheetRow
    → List CheckedRow
checked_rows order sheet answers likes at before [] = []
checked_rows order sheet answers likes at before (row ∷ rows) =
    checked_row order sheet (answer_at answers at) likes (key_of sheet row) (is_repeated sheet before row) row
    ∷ checked_rows order sheet answers likes (at + 1) (before ++ row ∷ []) rows
