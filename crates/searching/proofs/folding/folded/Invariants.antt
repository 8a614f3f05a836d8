use Rattle.std.proofs.Common.{◌≡◌, ◌++◌, length}
use Rattle.searching.specs.Folding.{folded}
use Rattle.searching.proofs.folding.folded.Given as goal

-- what is written, with what is left folded, is all of it folded
abbrev pub invariant-each : goal.invariant-each
invariant-each l = l.out.items ++ folded l.rest ≡ folded l.characters

abbrev pub decreases-each : goal.decreases-each
decreases-each l = length l.rest
