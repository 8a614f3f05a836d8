-- Rows of `apply` with their tokens: rules of our own.
use Rattle.std.specs.Prelude.{ℕ, ◌+◌, List, [], ◌∷◌, ◌++◌, codes, decimal}
use Rattle.csv.specs.Writing.{default_writer, row_text}
use Rattle.put_back.specs.Rows.{Cells}

-- how the tokens of the rows of a number begin, where an archive has so many answers
abbrev pub front : ℕ → ℕ → List ℕ
front answers n = codes "back-" ++ (decimal answers ++ (codes "-" ++ (decimal n ++ codes "-")))

abbrev pub row : List ℕ → ℕ → Cells → List ℕ
row begin k cells = row_text default_writer ((begin ++ decimal k) ∷ cells)

-- rows from the k-th on, each under the beginning and its place
abbrev pub rows : List ℕ → ℕ → List Cells → List ℕ
rows begin k [] = []
rows begin k (r ∷ rs) = row begin k r ++ rows begin (k + 1) rs
