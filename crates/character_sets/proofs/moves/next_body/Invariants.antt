use Rattle.std.proofs.Common.{◌≡◌, length}
use Rattle.character_sets.specs.Lines.{lines}
use Rattle.character_sets.specs.Moves.{next_body}
use Rattle.character_sets.proofs.moves.next_body.Given as goal

abbrev pub invariant-lines : goal.invariant-lines
invariant-lines l = next_body (lines l.rest) ≡ next_body (lines l.fn.units)

abbrev pub decreases-lines : goal.decreases-lines
decreases-lines l = length l.rest
