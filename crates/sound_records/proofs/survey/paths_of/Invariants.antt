use Rattle.std.proofs.Common.{take}
use Rattle.record_shapes.specs.Lists.{Ascends}
use Rattle.sound_records.specs.Knowing.{HasAll}
use Rattle.sound_records.proofs.Surveyed.{Upto}
use Rattle.sound_records.proofs.survey.paths_of.Given as goal

abbrev pub invariant-numbers : goal.invariant-numbers
invariant-numbers l = Ascends l.numbers → HasAll l.numbers l.state.records
    → Upto l.state.records (take l.number-index l.numbers) l.paths
