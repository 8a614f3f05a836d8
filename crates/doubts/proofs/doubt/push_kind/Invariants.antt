use Rattle.std.proofs.Common.{◌≡◌, ◌++◌, take}
use Rattle.doubts.specs.Doubts as doubts
use Rattle.doubts.proofs.doubt.push_kind.Given as goal

abbrev pub invariant-each : goal.invariant-each
invariant-each l = l.lines.items ≡ l.fn.lines.items ++ doubts.of_kind l.kind (take l.doubt-index l.found)
