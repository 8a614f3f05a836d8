use Rattle.std.proofs.Common.{take}
use Rattle.record_shapes.specs.Lists.{Ascends}
use Rattle.sound_records.proofs.Keyed.{AreKeyed}
use Rattle.sound_records.proofs.keys.first_taken.Given as goal

abbrev pub invariant-numbers : goal.invariant-numbers
invariant-numbers l = Ascends l.numbers → AreKeyed l.keys l.state.records (take l.number-index l.numbers)
