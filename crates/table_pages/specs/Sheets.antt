-- The sheet that bytes in UTF-8 are, or its first fault.
use Rattle.std.specs.Prelude.{
  ℕ,
  ◌+◌,
  ◌==◌,
  Bool,
  false,
  List,
  [],
  ◌∷◌,
  ◌++◌,
  length,
  take,
  codes,
  Option,
  Some,
  None,
  Result,
  Ok,
  Err,
  if◌then◌else◌,
}
use Rattle.std.specs.List.{list_all}
use Rattle.std.specs.Str.{is_utf8}
use Rattle.std.specs.Str.Lossy.{utf8_valid_len}
use Rattle.table_pages.specs.Cells.{Row, is_open, rows_of}
use Rattle.table_pages.specs.Faults.{fault}
use Rattle.table_pages.specs.Headers.{columns_from, header_fault, missing}
use Rattle.table_pages.specs.LineEnds.{line_feeds, without_mark}
use Rattle.table_pages.specs.Separators.{separated}
use Rattle.table_pages.specs.Texts.{row_texts}
use Rattle.table_pages.specs.declared.columns.Column.{Column}
use Rattle.table_pages.specs.declared.fault.FaultKind.{FaultKind}
use Rattle.table_pages.specs.declared.fault.FaultKind.TheVariants.{MissingColumn, NotUtf8, OpenQuote}
use Rattle.table_pages.specs.declared.fault.PageFault.{PageFault}
use Rattle.table_pages.specs.declared.sheet.SheetRow.{SheetRow}

-- what the columns are, their names, and the rows after the header that are not empty
pub record Sheet : Type 0 where
  pub columns : List Column
  pub names : Row
  pub rows : List SheetRow

-- ---- rows
abbrev pub is_empty : Row → Bool
is_empty cells = list_all (λ (cell : List ℕ). length cell == 0) cells

-- empty rows are passed over
abbrev pub shown : ℕ → Row → List SheetRow
shown number cells = if is_empty cells then [] else record { number = number; cells = cells } ∷ []

-- rows, and more after them
abbrev pub with_rows : List SheetRow → Result (List SheetRow) ℕ → Result (List SheetRow) ℕ
with_rows rows (Ok more) = Ok (rows ++ more)
with_rows rows (Err n) = Err n

abbrev pub with_row : ℕ → Option Row → Result (List SheetRow) ℕ → Result (List SheetRow) ℕ
with_row number None rest = Err number
with_row number (Some cells) rest = with_rows (shown number cells) rest

-- the rows from this number on, or the number of the first that has a cell that is not UTF-8
abbrev pub rows_from : ℕ → List Row → Result (List SheetRow) ℕ
rows_from number [] = Ok []
rows_from number (row ∷ rows) = with_row number (row_texts row) (rows_from (number + 1) rows)

-- ---- the sheet
abbrev pub row_fault : ℕ → FaultKind → PageFault
row_fault row kind = fault row kind [] []

abbrev pub unless_missing : Row → List SheetRow → List Column → Option (List ℕ) → Result Sheet PageFault
unless_missing names rows columns None = Ok (record { columns = columns; names = names; rows = rows })
unless_missing names rows columns (Some word) = Err (header_fault MissingColumn word)

abbrev pub with_columns : Row → List SheetRow → Result (List Column) PageFault → Result Sheet PageFault
with_columns names rows (Ok columns) = unless_missing names rows columns (missing columns)
with_columns names rows (Err e) = Err e

-- names of columns and rows
abbrev pub headed : Row → List SheetRow → Result Sheet PageFault
headed names rows = with_columns names rows (columns_from [] names)

abbrev pub unless_open : Bool → ℕ → Row → Result (List SheetRow) ℕ → Result Sheet PageFault
unless_open unclosed count names (Err row) = Err (row_fault row NotUtf8)
unless_open unclosed count names (Ok rows) = if unclosed then Err (row_fault count OpenQuote) else headed names rows

abbrev pub sheet_below : Bool → Row → List Row → Result Sheet PageFault
sheet_below unclosed names rows = unless_open unclosed (length rows + 1) names (rows_from 2 rows)

abbrev pub with_names : Bool → List Row → Option Row → Result Sheet PageFault
with_names unclosed rows None = Err (row_fault 1 NotUtf8)
with_names unclosed rows (Some names) = sheet_below unclosed names rows

-- all rows, of which the last has an open quote, or has none
abbrev pub sheet_of_rows : Bool → List Row → Result Sheet PageFault
sheet_of_rows unclosed [] = Err (header_fault MissingColumn (codes "kind"))
sheet_of_rows unclosed (header ∷ rows) = with_names unclosed rows (row_texts header)

-- how many bytes are before the first that is not UTF-8
abbrev pub first_stray : List ℕ → Option ℕ
first_stray lines = if is_utf8 lines then None else Some (utf8_valid_len lines)

abbrev pub unless_stray : ℕ → List ℕ → Option ℕ → Result Sheet PageFault
unless_stray separator lines None = sheet_of_rows (is_open separator lines) (rows_of separator lines)
unless_stray separator lines (Some n) = Err (row_fault (length (rows_of separator (take n lines))) NotUtf8)

-- lines that are not UTF-8 are refused at the row that the first byte at fault is in
abbrev pub sheet_of_lines : ℕ → List ℕ → Result Sheet PageFault
sheet_of_lines separator lines = unless_stray separator lines (first_stray lines)

-- the sheet of bytes
unfoldable pub sheet_of : List ℕ → Result Sheet PageFault
sheet_of bytes =
    let lines = separated (line_feeds false (without_mark bytes)) in sheet_of_lines lines.0 lines.1
