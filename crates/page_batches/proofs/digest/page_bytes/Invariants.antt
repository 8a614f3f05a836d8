use Rattle.std.proofs.Common.{◌≡◌, take}
use Rattle.page_batches.specs.Digests as digests
use Rattle.page_batches.proofs.digest.page_bytes.Given as goal

abbrev pub invariant-loop-entry : goal.invariant-loop-entry
invariant-loop-entry l = l.bytes.items ≡ digests.page_bytes l.fn.source (take l.entry-index l.fn.entries)
