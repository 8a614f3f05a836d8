-- The records of before, of the changes of a slip.
use Rattle.std.specs.Prelude.{List, map}
use Rattle.std.specs.FinMap.{from_entries}
use Rattle.archive_state.specs.declared.slip.Change.{Change}
use Rattle.archive_state.specs.Content.{Records}

abbrev pub records_before : List Change → Records
records_before cs = from_entries (map (λ (c : Change). (c.number, c.old)) cs)
