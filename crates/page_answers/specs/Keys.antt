-- The keys of rows: kind, item and page, by which an entry of a source is known.
use Rattle.std.specs.Prelude.{
  ℕ,
  Bool,
  false,
  List,
  ◌∷◌,
  ◌++◌,
  bytes_eq,
  decimal,
  Option,
  Some,
  None,
  Result,
  Ok,
}
use Rattle.std.specs.List.{list_any}
use Rattle.record_text.specs.declared.refusal.RefusalKind.{RefusalKind}
use Rattle.record_fields.specs.Words.{entry_kind_word}
use Rattle.record_fields.specs.declared.entry_words.EntryKind.{EntryKind}
use Rattle.record_fields.specs.declared.item.Item.{Item}
use Rattle.commands.specs.Fields.{text_of}
use Rattle.commands.specs.Rows.{item_in}
use Rattle.table_pages.specs.Sheets.{Sheet}
use Rattle.table_pages.specs.declared.columns.Column.TheVariants as column
use Rattle.table_pages.specs.declared.fault.FaultKind.{FaultKind}
use Rattle.table_pages.specs.declared.sheet.SheetRow.{SheetRow}
use Rattle.page_entries.specs.Checks.{text_fault}
use Rattle.page_entries.specs.Digits.{whole}
use Rattle.page_entries.specs.Entries.{cell_under, kind_in}
use Rattle.page_answers.specs.declared.keys.Key.{Key}

-- ---- the key of a row
abbrev pub unless_faulty : List ℕ → Option FaultKind → Option (List ℕ)
unless_faulty cell None = text_of cell
unless_faulty cell (Some fault) = None

-- a page is any text, also an empty one
abbrev pub page_in : List ℕ → Option (List ℕ)
page_in cell = unless_faulty cell (text_fault (Some column.Page) cell)

abbrev pub key_with : Option EntryKind → Result Item RefusalKind → Option (List ℕ) → Option Key
key_with (Some kind) (Ok item) (Some page) = Some (record { kind = kind; page = page; item = item })
key_with _ _ _ = None

-- none, where one of the three is wrong
abbrev pub key_of : Sheet → SheetRow → Option Key
key_of sheet row =
    key_with (kind_in (cell_under sheet row column.Kind)) (item_in (whole (cell_under sheet row column.Item)))
    (page_in (cell_under sheet row column.Page))

-- ---- the same key
-- kind, item and page, parted by U+0000, which is in none of them: two keys are one where these are
abbrev pub key_words : Key → List ℕ
key_words key = entry_kind_word key.kind ++ (0 ∷ (decimal key.item.number ++ (0 ∷ key.page)))

abbrev pub is_word : List ℕ → List ℕ → Bool
is_word words other = bytes_eq words other

abbrev pub has_words : List ℕ → Option Key → Bool
has_words words None = false
has_words words (Some key) = is_word words (key_words key)

-- a key is one of these
abbrev pub is_among : (List ℕ → Bool) → Option Key → Bool
is_among these None = false
is_among these (Some key) = these (key_words key)

-- one of these rows has a key of such words
abbrev pub have_words : Sheet → List SheetRow → List ℕ → Bool
have_words sheet rows words = list_any (λ row. has_words words (key_of sheet row)) rows
