-- The cross references of an export (The GEDCOM Standard Release 5.5.1, chapter 1, cross-reference identifiers). How
-- they are made is a rule of our own.
use Rattle.std.specs.Prelude.{ℕ, List, ◌++◌, codes, Option, Some, None, decimal}
use Rattle.std.specs.FinMap.{get}
use Rattle.record_kinds.specs.declared.record.Record.{Record}
use Rattle.record_kinds.specs.declared.record.Record.TheVariants as kind
use Rattle.archive_state.specs.Content.{Records}

-- the letter of a kind; `X` is that of all kinds without one
abbrev pub letter : Record → List ℕ
letter (kind.Place p) = codes "P"
letter (kind.Repo r) = codes "R"
letter (kind.Source s) = codes "S"
letter (kind.Person p) = codes "I"
letter (kind.Family f) = codes "F"
letter (kind.Entry e) = codes "E"
letter _ = codes "X"

abbrev pub letter_at : Option Record → List ℕ
letter_at None = codes "X"
letter_at (Some r) = letter r

-- a letter and a number between two @
abbrev pub name_with : List ℕ → ℕ → List ℕ
name_with letter n = codes "@" ++ (letter ++ (decimal n ++ codes "@"))

-- the cross reference of a number: the letter of what stands there, and the number
abbrev pub name_of : Records → ℕ → List ℕ
name_of m n = name_with (letter_at (get m n)) n
