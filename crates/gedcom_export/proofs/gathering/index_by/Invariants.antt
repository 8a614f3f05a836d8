use Rattle.std.proofs.Common.{◌≡◌, take}
use Rattle.std.specs.FinMap as map
use Rattle.gedcom_export.specs.Adding.{gathered_of}
use Rattle.gedcom_export.proofs.gathering.index_by.Given as goal

abbrev pub invariant-numbers : goal.invariant-numbers
invariant-numbers l = l.index ≡ gathered_of (map.get l.state.records) (take l.number-index l.numbers)
