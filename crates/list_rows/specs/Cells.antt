-- Cells of a list that is opened as a spreadsheet: rules of our own.
use Rattle.std.specs.Prelude.{
  ℕ,
  ◌+◌,
  ◌==◌,
  Bool,
  false,
  ◌||◌,
  if◌then◌else◌,
  List,
  [],
  ◌∷◌,
  decimal,
  drop,
  length,
  map,
}
use Rattle.std.specs.List.{flat_map}
use Rattle.csv.specs.Writing.{default_writer, row_text}

-- `=`, `+`, `-`, `@`, TAB and CR
unfoldable pub is_formula_mark : ℕ → Bool
is_formula_mark b = (b == 61) || (b == 43) || (b == 45) || (b == 64) || (b == 9) || (b == 13)

-- a spreadsheet would take the text for a formula
abbrev pub begins_formula : List ℕ → Bool
begins_formula [] = false
begins_formula (b ∷ bs) = is_formula_mark b

-- a text as it stands in a cell: an apostrophe is before what would be taken for a formula
abbrev pub cell : List ℕ → List ℕ
cell text = if begins_formula text then 39 ∷ text else text

-- these texts as a row of CSV
abbrev pub row : List (List ℕ) → List ℕ
row texts = row_text default_writer (map cell texts)

-- rows, one after the other
abbrev pub rows : List (List (List ℕ)) → List ℕ
rows found = flat_map row found

-- the number of a line, and what it says after the number and two spaces
abbrev pub numbered : ℕ × List ℕ → List (List ℕ)
numbered l = decimal l.0 ∷ drop (length (decimal l.0) + 2) l.1 ∷ []
