-- The register entries of a page: one for each row of its sheet, or the first fault.
use Rattle.std.specs.Prelude.{ℕ, List, [], ◌∷◌, ◌++◌, map, Option, Some, None, Result, Ok, Err}
use Rattle.std.specs.Char.{to_ascii_uppercase}
use Rattle.record_text.specs.declared.refusal.RefusalKind.{RefusalKind}
use Rattle.commands.specs.Rows.{item_in}
use Rattle.commands.specs.declared.entry_row.GivenMention.{GivenMention}
use Rattle.record_fields.specs.Words.{entry_kind_of}
use Rattle.record_fields.specs.declared.entry_words.EntryKind.{EntryKind}
use Rattle.record_fields.specs.declared.item.Item.{Item}
use Rattle.table_pages.specs.Faults.{fault}
use Rattle.table_pages.specs.Sheets.{Sheet, sheet_of}
use Rattle.table_pages.specs.declared.columns.Column.{Column}
use Rattle.table_pages.specs.declared.columns.Column.TheVariants as column
use Rattle.table_pages.specs.declared.fault.FaultKind.{FaultKind}
use Rattle.table_pages.specs.declared.fault.FaultKind.TheVariants.{BadDate, BadItem, BadKind}
use Rattle.table_pages.specs.declared.fault.PageFault.{PageFault}
use Rattle.table_pages.specs.declared.sheet.SheetRow.{SheetRow}
use Rattle.page_entries.specs.Checks.{first_fault}
use Rattle.page_entries.specs.Dates.{date_in}
use Rattle.page_entries.specs.Digits.{whole}
use Rattle.page_entries.specs.Places.{place_in}
use Rattle.page_entries.specs.Under.{cell_at, counted, mentions, under}
use Rattle.page_entries.specs.declared.checks.Check.TheVariants.{Texts, Roles}
use Rattle.page_entries.specs.declared.dates.DateOrder.{DateOrder}
use Rattle.page_entries.specs.declared.dates.PageDate.{PageDate}
use Rattle.page_entries.specs.declared.entries.PageEntry.{PageEntry}
use Rattle.page_entries.specs.declared.places.PagePlace.{PagePlace}

-- ---- cells and faults
abbrev pub cell_under : Sheet → SheetRow → Column → List ℕ
cell_under sheet row c = under c sheet.columns 0 row.cells

abbrev pub fault_under : Sheet → SheetRow → Column → FaultKind → PageFault
fault_under sheet row c kind = fault row.number kind (under c sheet.columns 0 sheet.names) (cell_under sheet row c)

abbrev pub fault_at : Sheet → SheetRow → ℕ → FaultKind → PageFault
fault_at sheet row at kind = fault row.number kind (cell_at sheet.names at) (cell_at row.cells at)

-- the kind of a word in letters of either case
abbrev pub kind_in : List ℕ → Option EntryKind
kind_in cell = entry_kind_of (map to_ascii_uppercase cell)

-- ---- one step after another: the first fault counts
abbrev pub or_fault : {A : Type 0} → PageFault → Option A → (A → Result PageEntry PageFault)
    → Result PageEntry PageFault
or_fault e None f = Err e
or_fault e (Some a) f = f a

abbrev pub or_kind : {A E : Type 0} → (E → PageFault) → Result A E → (A → Result PageEntry PageFault)
    → Result PageEntry PageFault
or_kind e (Err why) f = Err (e why)
or_kind e (Ok a) f = f a

abbrev pub unless : (ℕ → FaultKind → PageFault) → Option (ℕ × FaultKind) → Result PageEntry PageFault
    → Result PageEntry PageFault
unless e None r = r
unless e (Some found) r = Err (e found.0 found.1)

-- ---- rows
unfoldable pub with_mentions : Sheet → SheetRow → EntryKind → Item → PageDate → Option PagePlace → List GivenMention
    → Result PageEntry PageFault
with_mentions sheet row kind item date place ms =
    unless (fault_at sheet row) (first_fault (Roles kind) sheet.columns 0 row.cells) (Ok (record {
      row = row.number;
      kind = kind;
      page = cell_under sheet row column.Page;
      item = item;
      date = date;
      place = place;
      text = cell_under sheet row column.Text;
      mentions = ms;
    }))

unfoldable pub with_place : Sheet → SheetRow → EntryKind → Item → PageDate → Option PagePlace
    → Result PageEntry PageFault
with_place sheet row kind item date place =
    or_kind (λ why. fault row.number why [] []) (counted (mentions sheet.columns 0 row.cells))
    (with_mentions sheet row kind item date place)

unfoldable pub with_date : Sheet → SheetRow → EntryKind → Item → PageDate → Result PageEntry PageFault
with_date sheet row kind item date =
    or_kind (fault_under sheet row column.Place) (place_in (cell_under sheet row column.Place))
    (with_place sheet row kind item date)

unfoldable pub with_key : Option DateOrder → Sheet → SheetRow → EntryKind → Item → Result PageEntry PageFault
with_key order sheet row kind item =
    or_fault (fault_under sheet row column.Date BadDate) (date_in order (cell_under sheet row column.Date))
    (with_date sheet row kind item)

-- a kind, and an item that may have `.0` or `,0` at its end
unfoldable pub of_texts : Option DateOrder → Sheet → SheetRow → Result PageEntry PageFault
of_texts order sheet row =
    or_fault (fault_under sheet row column.Kind BadKind) (kind_in (cell_under sheet row column.Kind)) (λ kind.
    or_kind (λ (why : RefusalKind). fault_under sheet row column.Item BadItem)
    (item_in (whole (cell_under sheet row column.Item))) (with_key order sheet row kind))

-- the entry of a row of a sheet: its cells are texts, and then it has a kind, an item, a date, a place and mentions
unfoldable pub entry_of : Option DateOrder → Sheet → SheetRow → Result PageEntry PageFault
entry_of order sheet row =
    unless (fault_at sheet row) (first_fault Texts sheet.columns 0 row.cells) (of_texts order sheet row)

-- ---- pages
abbrev pub and_then : {A B E : Type 0} → Result A E → (A → Result B E) → Result B E
and_then (Ok a) f = f a
and_then (Err e) f = Err e

-- the entries of rows, or the first fault
abbrev pub entries_of : Option DateOrder → Sheet → List SheetRow → Result (List PageEntry) PageFault
entries_of order sheet [] = Ok []
entries_of order sheet (row ∷ rows) =
    and_then (entry_of order sheet row) (λ entry. and_then (entries_of order sheet rows) (λ more. Ok (entry ∷ more)))

-- the entries of a page: a function of its bytes
unfoldable pub page_of : Option DateOrder → List ℕ → Result (List PageEntry) PageFault
page_of order bytes = and_then (sheet_of bytes) (λ sheet. entries_of order sheet sheet.rows)

-- ---- for the proofs: the entries after these
abbrev pub after : List PageEntry → Result (List PageEntry) PageFault → Result (List PageEntry) PageFault
after entries (Ok more) = Ok (entries ++ more)
after entries (Err e) = Err e
