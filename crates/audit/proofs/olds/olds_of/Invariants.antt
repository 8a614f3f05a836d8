use Rattle.std.proofs.Common.{◌≡◌, ◌≤◌, drop, length}
use Rattle.audit.specs.Olds.{records_before}
use Rattle.audit.proofs.olds.olds_of.Given as goal

abbrev pub invariant-changes : goal.invariant-changes
invariant-changes l = record {
  within : l.left ≤ length l.changes;
  olds : l.olds.records ≡ records_before (drop l.left l.changes);
}

abbrev pub decreases-changes : goal.decreases-changes
decreases-changes l = l.left
