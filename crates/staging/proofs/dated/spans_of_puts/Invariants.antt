use Rattle.std.proofs.Common.{take}
use Rattle.staging.specs.Opened.{AreDated}
use Rattle.staging.proofs.dated.spans_of_puts.Given as goal

abbrev pub invariant-puts : goal.invariant-puts
invariant-puts l = AreDated (take l.put-index l.puts) l.found.items
