use Rattle.std.proofs.Common.{◌≡◌, take}
use Rattle.staged_rows.specs.Staging.{numbers_of}
use Rattle.staging.proofs.opened.numbers_of.Given as goal

abbrev pub invariant-puts : goal.invariant-puts
invariant-puts l = l.numbers.items ≡ numbers_of (take l.put-index l.puts)
