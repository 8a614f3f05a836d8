use Rattle.std.proofs.Common.{take}
use Rattle.audit.specs.Faults.{KeepSlips}
use Rattle.audit.proofs.slips.first_of.Given as goal

abbrev pub invariant-numbers : goal.invariant-numbers
invariant-numbers l = KeepSlips l.state (take l.number-index l.numbers)
