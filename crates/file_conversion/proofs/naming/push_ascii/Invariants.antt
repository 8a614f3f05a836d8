use Rattle.std.proofs.Common.{◌≡◌, ◌++◌, drop}
use Rattle.file_conversion.proofs.naming.push_ascii.Given as goal

abbrev pub invariant-loop-byte : goal.invariant-loop-byte
invariant-loop-byte l = l.all.items ++ drop l.byte-index l.bytes ≡ l.fn.all.items ++ l.bytes
