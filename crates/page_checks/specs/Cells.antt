-- What is found in a cell under a column, of one thing the first: rules of our own.
use Rattle.std.specs.Prelude.{
  ℕ,
  ◌==◌,
  Bool,
  nat_le,
  List,
  length,
  count_by,
  Option,
  Some,
  None,
  Result,
  Ok,
  Err,
  if◌then◌else◌,
}
use Rattle.record_text.specs.declared.refusal.RefusalKind.{RefusalKind}
use Rattle.record_fields.specs.declared.entry_words.EntryKind.{EntryKind}
use Rattle.record_fields.specs.declared.entry_words.Role.{Role}
use Rattle.commands.specs.Rows.{item_in}
use Rattle.table_pages.specs.declared.columns.Column.{Column}
use Rattle.table_pages.specs.declared.columns.Column.TheVariants as column
use Rattle.table_pages.specs.declared.fault.FaultKind.{FaultKind}
use Rattle.table_pages.specs.declared.fault.FaultKind.TheVariants.{BadDate, BadItem, BadKind}
use Rattle.page_entries.specs.Checks.{role_fault, text_fault}
use Rattle.page_entries.specs.Dates.{date_in}
use Rattle.page_entries.specs.Digits.{whole}
use Rattle.page_entries.specs.Entries.{kind_in}
use Rattle.page_entries.specs.Pages.{is_doubtful}
use Rattle.page_entries.specs.Places.{place_in}
use Rattle.page_entries.specs.declared.dates.DateOrder.{DateOrder}
use Rattle.page_entries.specs.declared.dates.PageDate.{PageDate}
use Rattle.page_entries.specs.declared.places.PagePlace.{PagePlace}
use Rattle.page_checks.specs.declared.cells.Known.{Known}
use Rattle.page_checks.specs.declared.findings.Doubt.TheVariants.{Words, NoPage, Page, Long}
use Rattle.page_checks.specs.declared.findings.What.{What}
use Rattle.page_checks.specs.declared.findings.What.TheVariants.{Fault, Refused, Doubtful}

-- ---- by columns
abbrev pub if_none : {A : Type 0} → FaultKind → Option A → Option What
if_none kind None = Some (Fault kind)
if_none kind (Some a) = None

abbrev pub of_kind : List ℕ → Option What
of_kind cell = if_none BadKind (kind_in cell)

-- an empty page is doubtful, and one that looks like something else
abbrev pub of_page : List ℕ → Option What
of_page cell =
    if length cell == 0 then Some (Doubtful NoPage) else if is_doubtful cell then Some (Doubtful Page) else None

abbrev pub if_refused : {A E : Type 0} → FaultKind → Result A E → Option What
if_refused kind (Ok a) = None
if_refused kind (Err e) = Some (Fault kind)

abbrev pub of_item : List ℕ → Option What
of_item cell = if_refused BadItem (item_in (whole cell))

-- a date that has no days is doubtful
abbrev pub of_words : Bool → Option What
of_words is_words = if is_words then Some (Doubtful Words) else None

abbrev pub dated : Option PageDate → Option What
dated None = Some (Fault BadDate)
dated (Some date) = of_words date.is_words

abbrev pub of_date : Option DateOrder → List ℕ → Option What
of_date order cell = dated (date_in order cell)

-- a place may be refused by the archive
abbrev pub refused : Option RefusalKind → Option What
refused None = None
refused (Some kind) = Some (Refused kind)

abbrev pub placed : Option RefusalKind → Result (Option PagePlace) FaultKind → Option What
placed refusal (Ok place) = refused refusal
placed refusal (Err kind) = Some (Fault kind)

abbrev pub of_place : Option RefusalKind → List ℕ → Option What
of_place refusal cell = placed refusal (place_in cell)

-- a text of more than 20 lines is doubtful: a quote may be missing
abbrev pub of_text : List ℕ → Option What
of_text cell = if nat_le 20 (count_by (λ b. b == 10) cell) then Some (Doubtful Long) else None

abbrev pub faulty : Option FaultKind → Option What
faulty None = None
faulty (Some kind) = Some (Fault kind)

-- a name under a role that the kind has not
abbrev pub of_mention : Option EntryKind → Role → ℕ → List ℕ → Option What
of_mention None role number cell = None
of_mention (Some kind) role number cell = faulty (role_fault kind (Some (column.Mention role number)) cell)

-- ---- cells
abbrev pub meaning_of : Known → Column → List ℕ → Option What
meaning_of known column.Kind cell = of_kind cell
meaning_of known column.Page cell = of_page cell
meaning_of known column.Item cell = of_item cell
meaning_of known column.Date cell = of_date known.order cell
meaning_of known column.Place cell = of_place known.place cell
meaning_of known column.Text cell = of_text cell
meaning_of known (column.Mention role number) cell = of_mention known.kind role number cell
meaning_of known _ cell = None

abbrev pub or_meaning : Known → Column → List ℕ → Option FaultKind → Option What
or_meaning known c cell None = meaning_of known c cell
or_meaning known c cell (Some kind) = Some (Fault kind)

-- a cell that is no text is wrong, whatever it would mean
abbrev pub what_of : Known → Column → List ℕ → Option What
what_of known c cell = or_meaning known c cell (text_fault (Some c) cell)
