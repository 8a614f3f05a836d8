use Rattle.std.proofs.Common.{◌≡◌, map, take}
use Rattle.commands.specs.Bytes.{Batch, entry_fields, written}
use Rattle.commands.proofs.entry_bytes.entries_bytes.Given as goal

abbrev pub invariant-loop-row : goal.invariant-loop-row
invariant-loop-row l = l.bytes.items ≡ written (Batch l.fn.source (map entry_fields (take l.row-index l.fn.rows)))
