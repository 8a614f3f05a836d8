-- A record of an index, as contracts see it.
use Rattle.std.specs.Prelude.{ℕ, List}
use Rattle.name_index.specs.declared.index.IndexEntry.{IndexEntry}

-- the number of the record, and its names
abbrev pub entry_of : IndexEntry → ℕ × List (List ℕ)
entry_of e = (e.number, e.names.items)
