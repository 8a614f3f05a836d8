use Rattle.std.proofs.Common.{◌≡◌, ◌++◌, length}
use Rattle.character_sets.specs.Sets.{wide_units}
use Rattle.character_sets.proofs.units.pairs.Given as goal

abbrev pub invariant-pairs : goal.invariant-pairs
invariant-pairs l = l.units.items ++ wide_units l.is_low_first l.rest ≡ wide_units l.is_low_first l.fn.bytes

abbrev pub decreases-pairs : goal.decreases-pairs
decreases-pairs l = length l.rest
