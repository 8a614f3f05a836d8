use Rattle.std.proofs.Common.{◌≡◌, take}
use Rattle.archive_state.proofs.slip.Slip.copy.Given as goal

abbrev pub invariant-changes : goal.invariant-changes
invariant-changes l = l.changes.items ≡ take l.change-index l.change-items
