use Rattle.std.proofs.Common.{take}
use Rattle.std.specs.FinMap as map
use Rattle.masking.specs.Sets.{Has}
use Rattle.masking.proofs.Told.{IsToldAmong}
use Rattle.masking.proofs.telling.told_by_all.Given as goal

abbrev pub invariant-numbers : goal.invariant-numbers
invariant-numbers g l = Has l.told
    (IsToldAmong l.state.records (g.T.Tells.tells l.teller) (take l.number-index (map.keys l.state.records)))
