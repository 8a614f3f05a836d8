-- The cells of a row as texts: UTF-8, without blanks at their ends.
use Rattle.std.specs.Prelude.{ℕ, List, [], ◌∷◌, ◌++◌, Option, Some, None, option_map, if◌then◌else◌}
use Rattle.std.specs.Str.{is_utf8}
use Rattle.table_pages.specs.Blanks.{trimmed}
use Rattle.table_pages.specs.Cells.{Row}

abbrev pub text : List ℕ → Option (List ℕ)
text cell = if is_utf8 (trimmed cell) then Some (trimmed cell) else None

-- one more before the rest, where there are both
abbrev pub both : Option (List ℕ) → Option Row → Option Row
both None rest = None
both (Some cell) rest = option_map (λ cells. cell ∷ cells) rest

abbrev pub row_texts : Row → Option Row
row_texts [] = Some []
row_texts (cell ∷ cells) = both (text cell) (row_texts cells)

-- ---- for the proofs: the texts after these
abbrev pub after : Row → Option Row → Option Row
after texts rest = option_map (λ cells. texts ++ cells) rest
