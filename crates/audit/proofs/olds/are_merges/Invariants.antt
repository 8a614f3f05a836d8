use Rattle.audit.specs.Parts.{IsMergeIn}
use Rattle.audit.proofs.Loops.{IsLeft}
use Rattle.audit.proofs.olds.are_merges.Given as goal

abbrev pub invariant-changes : goal.invariant-changes
invariant-changes l = IsLeft (IsMergeIn l.olds.records l.keep l.gone) l.changes l.change-index
