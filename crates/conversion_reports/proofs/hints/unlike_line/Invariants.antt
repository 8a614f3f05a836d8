use Rattle.std.proofs.Common.{◌≡◌, length}
use Rattle.character_sets.specs.Lines.{lines}
use Rattle.conversion_reports.specs.Hints.{unlike_line}
use Rattle.conversion_reports.proofs.hints.unlike_line.Given as goal

abbrev pub invariant-lines : goal.invariant-lines
invariant-lines l = unlike_line (lines l.rest) ≡ unlike_line (lines l.fn.units)

abbrev pub decreases-lines : goal.decreases-lines
decreases-lines l = length l.rest
