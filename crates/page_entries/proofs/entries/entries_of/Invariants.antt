use Rattle.std.proofs.Common.{◌≡◌, drop}
use Rattle.page_entries.specs.Entries.{after, entries_of}
use Rattle.page_entries.proofs.entries.entries_of.Given as goal

abbrev pub invariant-loop-row : goal.invariant-loop-row
invariant-loop-row l = after l.entries.items (entries_of l.order l.sheet (drop l.row-index l.rows))
    ≡ entries_of l.order l.sheet l.rows
