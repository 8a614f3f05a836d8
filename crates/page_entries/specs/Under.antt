-- What is under a column of a page, and the names under roles.
use Rattle.std.specs.Prelude.{
  ℕ,
  ◌+◌,
  ◌==◌,
  Bool,
  false,
  List,
  [],
  ◌∷◌,
  ◌++◌,
  length,
  slice_get,
  Option,
  Some,
  None,
  Result,
  Ok,
  Err,
  if◌then◌else◌,
}
use Rattle.commands.specs.Mentions.{is_count}
use Rattle.commands.specs.declared.entry_row.GivenMention.{GivenMention}
use Rattle.record_fields.specs.Words.{role_word}
use Rattle.table_pages.specs.Columns.{column_code}
use Rattle.table_pages.specs.declared.columns.Column.{Column}
use Rattle.table_pages.specs.declared.columns.Column.TheVariants.{Mention}
use Rattle.table_pages.specs.declared.fault.FaultKind.{FaultKind}
use Rattle.table_pages.specs.declared.fault.FaultKind.TheVariants.{ManyMentions, NoMention}

abbrev pub is_column : Option Column → Column → Bool
is_column None column = false
is_column (Some found) column = column_code found == column_code column

-- the cell under a column, of those from this place on; empty, where there is none
abbrev pub under : Column → List Column → ℕ → List (List ℕ) → List ℕ
under column columns at [] = []
under column columns at (cell ∷ cells) =
    if is_column (slice_get columns at) column then cell else under column columns (at + 1) cells

-- the cell at a place; empty, where there is none
abbrev pub or_empty : Option (List ℕ) → List ℕ
or_empty None = []
or_empty (Some cell) = cell

abbrev pub cell_at : List (List ℕ) → ℕ → List ℕ
cell_at cells at = or_empty (slice_get cells at)

-- ---- mentions
-- the name under a role; an empty cell is none
abbrev pub mention : Option Column → List ℕ → List GivenMention
mention (Some (Mention role number)) cell =
    if length cell == 0 then [] else record { role = role_word role; name = cell } ∷ []
mention _ cell = []

-- in the order of the columns, from this place on
abbrev pub mentions : List Column → ℕ → List (List ℕ) → List GivenMention
mentions columns at [] = []
mentions columns at (cell ∷ cells) = mention (slice_get columns at) cell ++ mentions columns (at + 1) cells

-- 1 to 100
abbrev pub counted : List GivenMention → Result (List GivenMention) FaultKind
counted ms = if is_count ms then Ok ms else if length ms == 0 then Err NoMention else Err ManyMentions
