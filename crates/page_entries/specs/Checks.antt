-- What is wrong with a cell, whatever entry its row is; and a name under a role that the kind has not.
use Rattle.std.specs.Prelude.{
  ℕ,
  ◌+◌,
  ◌==◌,
  ◌&&◌,
  ◌||◌,
  Bool,
  true,
  false,
  not,
  nat_le,
  List,
  [],
  ◌∷◌,
  length,
  codes,
  bytes_eq,
  slice_get,
  Option,
  Some,
  None,
  if◌then◌else◌,
}
use Rattle.std.specs.List.{list_all}
use Rattle.record_fields.specs.declared.entry_words.EntryKind.{EntryKind}
use Rattle.record_shapes.specs.Roles.{is_role_of}
use Rattle.table_pages.specs.declared.columns.Column.{Column}
use Rattle.table_pages.specs.declared.columns.Column.TheVariants.{Mention, Own, Unnamed}
use Rattle.table_pages.specs.declared.fault.FaultKind.{FaultKind}
use Rattle.table_pages.specs.declared.fault.FaultKind.TheVariants.{
  BadText,
  BeyondHeader,
  NotOfKind,
  SheetError,
  UnnamedColumn,
}
use Rattle.page_entries.specs.declared.checks.Check.{Check}
use Rattle.page_entries.specs.declared.checks.Check.TheVariants.{Texts, Roles}

-- what a spreadsheet writes for an error
abbrev pub is_error : List ℕ → Bool
is_error cell =
    if bytes_eq cell (codes "#REF!") then true
    else if bytes_eq cell (codes "#N/A") then true
    else if bytes_eq cell (codes "#NAME?") then true
    else if bytes_eq cell (codes "#VALUE!") then true
    else if bytes_eq cell (codes "#DIV/0!") then true
    else if bytes_eq cell (codes "#NUM!") then true
    else if bytes_eq cell (codes "#NULL!") then true
    else false

-- and in a column that is too narrow: only `#`, once or more
abbrev pub is_narrow : List ℕ → Bool
is_narrow cell = not (length cell == 0) && list_all (λ b. b == 35) cell

-- without U+0000, and of at most 1,048,576 bytes
abbrev pub is_text : List ℕ → Bool
is_text cell = nat_le (length cell) 1048576 && list_all (λ b. not (b == 0)) cell

abbrev pub shown_fault : List ℕ → Option FaultKind
shown_fault cell =
    if is_error cell || is_narrow cell then Some SheetError else if is_text cell then None else Some BadText

abbrev pub unless_empty : FaultKind → List ℕ → Option FaultKind
unless_empty kind cell = if length cell == 0 then None else Some kind

-- the fault of a cell under a column, and of one after the last column
abbrev pub text_fault : Option Column → List ℕ → Option FaultKind
text_fault None cell = unless_empty BeyondHeader cell
text_fault (Some Own) cell = None
text_fault (Some Unnamed) cell = unless_empty UnnamedColumn cell
text_fault (Some _) cell = shown_fault cell

abbrev pub role_fault : EntryKind → Option Column → List ℕ → Option FaultKind
role_fault kind (Some (Mention role number)) cell =
    if not (is_role_of kind role) then unless_empty NotOfKind cell else None
role_fault kind _ cell = None

abbrev pub cell_fault : Check → Option Column → List ℕ → Option FaultKind
cell_fault Texts column cell = text_fault column cell
cell_fault (Roles kind) column cell = role_fault kind column cell

-- the fault of a cell at this place, or that of the cells after it
abbrev pub or_after : ℕ → Option FaultKind → Option (ℕ × FaultKind) → Option (ℕ × FaultKind)
or_after at None rest = rest
or_after at (Some kind) rest = Some (at, kind)

-- the place of the first cell from this place on that has a fault, and the fault
abbrev pub first_fault : Check → List Column → ℕ → List (List ℕ) → Option (ℕ × FaultKind)
first_fault check columns at [] = None
first_fault check columns at (cell ∷ cells) =
    or_after at (cell_fault check (slice_get columns at) cell) (first_fault check columns (at + 1) cells)
