use Rattle.std.proofs.Common.{◌≡◌, take}
use Rattle.page_batches.specs.Words as words
use Rattle.page_batches.proofs.words.numbers_of.Given as goal

abbrev pub invariant-loop-entry : goal.invariant-loop-entry
invariant-loop-entry l = l.numbers.items ≡ words.numbers_of (take l.entry-index l.entries)
