use Rattle.std.proofs.Common.{take}
use Rattle.sound_records.specs.Knowing.{KnowsPaths}
use Rattle.sound_records.specs.Parts.{AllKeep}
use Rattle.sound_records.proofs.searching.first_broken.Given as goal

abbrev pub invariant-numbers : goal.invariant-numbers
invariant-numbers l = KnowsPaths l.state.records l.paths
    → AllKeep l.next l.may_miss l.state.records (take l.number-index l.numbers)
