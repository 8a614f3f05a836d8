use Rattle.std.proofs.Common.{◌≡◌, drop}
use Rattle.audit.specs.Parts.{changed}
use Rattle.audit.specs.Rising.{rises_from}
use Rattle.audit.proofs.numbers.rise_from.Given as goal

abbrev pub invariant-changes : goal.invariant-changes
invariant-changes l = rises_from l.last (changed (drop l.change-index l.changes))
    ≡ rises_from l.before (changed l.changes)
