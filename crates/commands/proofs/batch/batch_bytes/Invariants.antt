use Rattle.std.proofs.Common.{◌≡◌, take}
use Rattle.commands.specs.Bytes.{Batch, written}
use Rattle.commands.proofs.batch.batch_bytes.Given as goal

abbrev pub invariant-loop-row : goal.invariant-loop-row
invariant-loop-row l = l.bytes.items ≡ written (Batch l.fn.source (take l.row-index l.rows))
