use Rattle.std.proofs.Common.{◌≡◌, ◌++◌, take}
use Rattle.plain_export.specs.Added as adding
use Rattle.plain_export.proofs.entries.add_citations.Given as goal

abbrev pub invariant-numbers : goal.invariant-numbers
invariant-numbers l = l.added.items
    ≡ l.fn.added.items ++ adding.citations l.entry l.noted (take l.number-index l.numbers)
