use Rattle.std.proofs.Common.{take}
use Rattle.entry_batches.specs.Words.{AreUtf8Entries}
use Rattle.entry_batches.proofs.words.tell_entries.Given as goal

abbrev pub invariant-rows : goal.invariant-rows
invariant-rows l = AreUtf8Entries (take l.row-index l.rows)
