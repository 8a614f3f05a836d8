use Rattle.std.proofs.Common.{◌≡◌, length}
use Rattle.std.specs.Prelude.{map}
use Rattle.record_shapes.specs.Shapes.{mention_line}
use Rattle.entry_reading.specs.Guess.{are}
use Rattle.entry_reading.proofs.comparing.are_mentions.Given as goal

abbrev pub invariant-mentions : goal.invariant-mentions
invariant-mentions l = are l.lines (map mention_line l.rest) ≡ are l.fn.lines (map mention_line l.mentions)

abbrev pub decreases-mentions : goal.decreases-mentions
decreases-mentions l = length l.rest
