use Rattle.std.proofs.Common.{◌≡◌, take}
use Rattle.audit.specs.Parts.{changed}
use Rattle.audit.proofs.numbers.numbers_of.Given as goal

abbrev pub invariant-changes : goal.invariant-changes
invariant-changes l = l.numbers.items ≡ changed (take l.change-index l.changes)
