-- Cells that entering a page would refuse, in the words of `page_entries`.
use Rattle.std.specs.Prelude.{ℕ, ◌≡◌, ◌⊎◌, List, ◌++◌, Option, Some, None, Err}
use Rattle.record_text.specs.declared.refusal.RefusalKind.{RefusalKind}
use Rattle.record_fields.specs.declared.entry_words.EntryKind.{EntryKind}
use Rattle.commands.specs.Rows.{item_in}
use Rattle.table_pages.specs.declared.columns.Column.{Column}
use Rattle.table_pages.specs.declared.columns.Column.TheVariants as column
use Rattle.table_pages.specs.declared.fault.FaultKind.{FaultKind}
use Rattle.page_entries.specs.Checks.{role_fault, text_fault}
use Rattle.page_entries.specs.Dates.{date_in}
use Rattle.page_entries.specs.Digits.{whole}
use Rattle.page_entries.specs.Entries.{kind_in}
use Rattle.page_entries.specs.Places.{place_in}
use Rattle.page_entries.specs.declared.dates.DateOrder.{DateOrder}

-- the cell does not say what its column asks for, in a row of this kind
abbrev pub Misses : Option DateOrder → Option EntryKind → Column → List ℕ → Type 0
Misses order kind column.Kind cell = kind_in cell ≡ None
Misses order kind column.Page cell = ⊥
Misses order kind column.Item cell = (why : RefusalKind) × (item_in (whole cell) ≡ Err why)
Misses order kind column.Date cell = date_in order cell ≡ None
Misses order kind column.Place cell = (why : FaultKind) × (place_in cell ≡ Err why)
Misses order kind column.Text cell = ⊥
Misses order None (column.Mention role number) cell = ⊥
Misses order (Some kind) (column.Mention role number) cell =
    (why : FaultKind) × (role_fault kind (Some (column.Mention role number)) cell ≡ Some why)
Misses order kind column.Own cell = ⊥
Misses order kind column.Unnamed cell = ⊥

-- entering refuses the cell under this column: it is no text, or it does not say what it should
abbrev pub IsRefused : Option DateOrder → Option EntryKind → Column → List ℕ → Type 0
IsRefused order kind c cell =
    ((why : FaultKind) × (text_fault (Some c) cell ≡ Some why)) ⊎ Misses order kind c cell

-- a text has another one in it
abbrev pub Has : List ℕ → List ℕ → Type 0
Has text part = (front : List ℕ) × (back : List ℕ) × (text ≡ front ++ (part ++ back))
