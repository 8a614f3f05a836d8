use Rattle.std.proofs.Common.{◌≡◌, length}
use Rattle.record_shapes.specs.Entries.{line_at}
use Rattle.entry_reading.proofs.lines.first_of.Given as goal

abbrev pub invariant-loop-line : goal.invariant-loop-line
invariant-loop-line l = line_at l.tag l.rest ≡ line_at l.tag l.lines

abbrev pub decreases-loop-line : goal.decreases-loop-line
decreases-loop-line l = length l.rest
