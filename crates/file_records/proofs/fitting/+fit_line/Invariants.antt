use Rattle.std.proofs.Common.{◌≡◌}
use Rattle.file_records.proofs.fitting.+fit_line.Given as goal

abbrev pub decreases-fit_line : goal.decreases-fit_line
decreases-fit_line l = goal.size-fit_line l

abbrev pub invariant-loop-child : goal.invariant-loop-child
invariant-loop-child l = l.child-items ≡ l.initial.child-items
