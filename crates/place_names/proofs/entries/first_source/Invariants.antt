use Rattle.std.proofs.Common.{◌≡◌, codes, length}
use Rattle.record_shapes.specs.Entries.{line_at}
use Rattle.place_names.proofs.entries.first_source.Given as goal

abbrev pub invariant-loop-line : goal.invariant-loop-line
invariant-loop-line l = line_at (codes "SOUR") l.rest ≡ line_at (codes "SOUR") l.lines

abbrev pub decreases-loop-line : goal.decreases-loop-line
decreases-loop-line l = length l.rest
