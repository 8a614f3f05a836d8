-- A file as lines: each of CR and LF ends one, so that after CR LF a blank line is counted with the others that are
-- passed over.
use Rattle.std.specs.Prelude.{ℕ, ◌==◌, ◌||◌, Bool, not, List, [], ◌∷◌, ◌++◌, if◌then◌else◌}
use Rattle.std.specs.List.{list_all}

-- the units of a line, and the one that ends it, none only at the end of the file
pub record Line : Type 0 where
  pub body : List ℕ
  pub ending : List ℕ

abbrev pub is_ending : ℕ → Bool
is_ending unit = unit == 10 || unit == 13

abbrev pub is_body : ℕ → Bool
is_body unit = not (is_ending unit)

-- a space or a tab
abbrev pub is_white : ℕ → Bool
is_white unit = unit == 32 || unit == 9

-- one more unit in front
abbrev pub onto_first : ℕ → List Line → List Line
onto_first unit [] = record { body = unit ∷ []; ending = [] } ∷ []
onto_first unit (l ∷ ls) = record { body = unit ∷ l.body; ending = l.ending } ∷ ls

unfoldable pub lines : List ℕ → List Line
lines [] = []
lines (unit ∷ units) =
    if is_ending unit then record { body = []; ending = unit ∷ [] } ∷ lines units else onto_first unit (lines units)

-- what is no line, but is written as it stands
abbrev pub is_blank : List ℕ → Bool
is_blank body = list_all is_white body

-- the units of lines
abbrev pub units_of : List Line → List ℕ
units_of [] = []
units_of (l ∷ ls) = l.body ++ l.ending ++ units_of ls
