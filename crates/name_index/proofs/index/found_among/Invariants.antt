use Rattle.std.proofs.Common.{◌≡◌, ◌++◌, drop, map}
use Rattle.name_index.specs.Entries.{entry_of}
use Rattle.name_index.specs.Found.{found_by}
use Rattle.name_index.proofs.index.found_among.Given as goal

-- what is found, with what is found among the others, is all
abbrev pub invariant-each : goal.invariant-each
invariant-each l = l.numbers.items ++ found_by l.words (map entry_of (drop l.entry-index l.entries))
    ≡ found_by l.words (map entry_of l.entries)
