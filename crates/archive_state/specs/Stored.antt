-- The numbers in the lines that a record is kept as.
use Rattle.std.specs.Prelude.{ℕ, ◌==◌, Bool, false, List, Option, Some, None}
use Rattle.std.specs.List.{list_any}
use Rattle.stored_lines.specs.Line.{Label}

-- whether a number that may be missing is this one
abbrev pub is_target : ℕ → Option ℕ → Bool
is_target n None = false
is_target n (Some m) = m == n

-- whether one of the lines names a number
abbrev pub some_line_names : ℕ → List (ℕ × Label) → Bool
some_line_names n = list_any (λ (l : ℕ × Label). is_target n l.1.target)
