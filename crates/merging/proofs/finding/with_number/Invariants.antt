use Rattle.std.proofs.Common.{◌≡◌, ◌++◌, drop}
use Rattle.merging.specs.Merges as specs
use Rattle.merging.specs.Rest.{rest_of}
use Rattle.merging.proofs.finding.with_number.Given as goal

abbrev pub invariant-all : goal.invariant-all
invariant-all l = specs.with_number l.number l.numbers ≡ l.found.items ++ rest_of l.is_in l.number (drop l.i l.numbers)
