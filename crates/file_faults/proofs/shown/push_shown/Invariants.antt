use Rattle.std.proofs.Common.{◌≡◌, ◌++◌}
use Rattle.file_faults.specs.Shown.{max_shown, shown}
use Rattle.file_faults.proofs.shown.push_shown.Given as goal

abbrev pub invariant-characters : goal.invariant-characters
invariant-characters l = l.out.items ++ shown l.left l.rest ≡ l.fn.out.items ++ shown max_shown l.line

abbrev pub decreases-characters : goal.decreases-characters
decreases-characters l = l.left
