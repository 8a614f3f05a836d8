-- The rows of a sheet and their cells. A quote around a cell lets separators and line ends stand in it, and is written
-- twice there; elsewhere in a cell it is a character like others.
use Rattle.std.specs.Prelude.{ℕ, ◌==◌, Bool, true, false, List, [], ◌∷◌, ◌++◌, if◌then◌else◌}
use Rattle.table_pages.specs.declared.cells.Mode.{Mode}
use Rattle.table_pages.specs.declared.cells.Mode.TheVariants.{Start, Plain, Quoted, Closed}
use Rattle.table_pages.specs.declared.cells.Act.{Act}
use Rattle.table_pages.specs.declared.cells.Act.TheVariants.{Turn, Put, EndCell, EndRow}

-- a row, as the bytes of its cells
abbrev pub Row : Type 0
Row = List (List ℕ)

-- what a byte does outside quotes
abbrev pub plain : ℕ → ℕ → Act
plain separator b = if b == separator then EndCell else if b == 10 then EndRow else Put Plain

-- what it does to a cell that was read so far
abbrev pub act : ℕ → Mode → ℕ → Act
act separator Start b = if b == 34 then Turn Quoted else plain separator b
act separator Plain b = plain separator b
act separator Quoted b = if b == 34 then Turn Closed else Put Quoted
act separator Closed b = if b == 34 then Put Quoted else plain separator b

-- what bytes within a cell make: the rest of the cell, the cells after it in its row, the rows after that, and how far
-- the last cell is read
pub record Rest : Type 0 where
  pub cell : List ℕ
  pub cells : Row
  pub rows : List Row
  pub ends : Mode

abbrev pub nothing : Mode → Rest
nothing mode = record { cell = []; cells = []; rows = []; ends = mode }

-- the same with a byte before it; with the end of a cell before it; with the end of a row
abbrev pub onto : ℕ → Rest → Rest
onto b r = record { cell = b ∷ r.cell; cells = r.cells; rows = r.rows; ends = r.ends }

abbrev pub next_cell : Rest → Rest
next_cell r = record { cell = []; cells = r.cell ∷ r.cells; rows = r.rows; ends = r.ends }

abbrev pub next_row : Rest → Rest
next_row r = record { cell = []; cells = []; rows = (r.cell ∷ r.cells) ∷ r.rows; ends = r.ends }

-- a byte, and what the bytes after it make
abbrev pub done : Act → ℕ → (Mode → Rest) → Rest
done (Turn mode) b rest = rest mode
done (Put mode) b rest = onto b (rest mode)
done EndCell b rest = next_cell (rest Start)
done EndRow b rest = next_row (rest Start)

abbrev pub read : ℕ → Mode → List ℕ → Rest
read separator mode [] = nothing mode
read separator mode (b ∷ bytes) = done (act separator mode b) b (λ m. read separator m bytes)

-- the rows of lines; after the last line end an empty one
abbrev pub all_rows : Rest → List Row
all_rows r = (r.cell ∷ r.cells) ∷ r.rows

unfoldable pub rows_of : ℕ → List ℕ → List Row
rows_of separator lines = all_rows (read separator Start lines)

-- a quote is open at the end
abbrev pub is_quoted : Mode → Bool
is_quoted Quoted = true
is_quoted _ = false

unfoldable pub is_open : ℕ → List ℕ → Bool
is_open separator lines = is_quoted (read separator Start lines).ends

-- ---- the same a byte at a time, for the proofs
-- all rows, where some were read, of the next some cells, and of its last one some bytes
abbrev pub joined : List Row → Row → List ℕ → Rest → List Row
joined rows row cell r = rows ++ (row ++ (cell ++ r.cell) ∷ r.cells) ∷ r.rows

abbrev pub read_on : ℕ → List Row → Row → List ℕ → Mode → List ℕ → List Row
read_on separator rows row cell mode bytes = joined rows row cell (read separator mode bytes)
