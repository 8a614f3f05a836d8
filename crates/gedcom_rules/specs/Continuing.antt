-- The lines that continue a line, and what they add to its text (The GEDCOM Standard Release 5.5.1, chapter 1: CONC and
-- CONT).
use Rattle.std.specs.Prelude.{ℕ, ◌+◌, ◌&&◌, ◌==◌, nat_lt, if◌then◌else◌, List, [], ◌∷◌, ◌++◌, codes}
use Rattle.std.specs.Str.{bytes_eq}
use Rattle.gedcom_line.specs.Reading.{Parts, is_continuation}
use Rattle.gedcom_line.specs.Escape.{unescaped}

-- Among the lines after a line of the level, those that continue it: CONC and CONT one level below, up to the next
-- line that is not deeper.
abbrev pub belongs : ℕ → List Parts → List Parts
belongs level [] = []
belongs level (l ∷ ls) =
    if nat_lt level l.level
    then (if is_continuation l.tag && l.level == level + 1 then l ∷ belongs level ls else belongs level ls) else []

-- what a continuation adds to a text: CONT a line break, CONC nothing, and then its value
abbrev pub adds : Parts → List ℕ
adds l = (if bytes_eq l.tag (codes "CONT") then 10 ∷ [] else []) ++ unescaped l.raw
