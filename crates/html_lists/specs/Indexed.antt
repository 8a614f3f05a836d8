-- The names by which a search finds records, made once.
use Rattle.std.specs.Prelude.{ℕ, List, [], ◌++◌, map, Option, Some, None}
use Rattle.record_kinds.specs.declared.record.Record.{Record}
use Rattle.searching.specs.Wanted.{names_of}
use Rattle.sheets.specs.Gathered.{Gathered}

-- the names by which a record is found; none where there is no record
abbrev pub names_at : Option Record → List (List ℕ)
names_at None = []
names_at (Some r) = names_of r

-- these numbers, each with the names of its record
abbrev pub named : Gathered → List ℕ → List (ℕ × List (List ℕ))
named g numbers = map (λ n. (n, names_at (g.at n))) numbers

-- the persons, the sources and the entries with their names, each by number
abbrev pub indexed : Gathered → List (ℕ × List (List ℕ))
indexed g = named g g.persons ++ (named g g.sources ++ named g g.entries)
