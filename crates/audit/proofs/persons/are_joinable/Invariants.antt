use Rattle.audit.specs.Clashes.{IsJoinableAt}
use Rattle.audit.proofs.Loops.{IsLeft}
use Rattle.audit.proofs.persons.are_joinable.Given as goal

abbrev pub invariant-numbers : goal.invariant-numbers
invariant-numbers l = IsLeft (IsJoinableAt l.olds.records l.keep l.gone) l.numbers l.number-index
