use Rattle.std.proofs.Common.{◌≡◌, ◌+◌, ◌≤◌, length}
use Rattle.character_sets.specs.Lines.{lines}
use Rattle.file_conversion.specs.Conversion.{first_unlike}
use Rattle.file_conversion.proofs.deciding.first_unlike.Given as goal

abbrev pub invariant-lines : goal.invariant-lines
invariant-lines l = record {
  found : first_unlike l.line (lines l.rest) ≡ first_unlike 1 (lines l.fn.units);
  counted : l.line + length l.rest ≤ length l.fn.units + 1;
}

abbrev pub decreases-lines : goal.decreases-lines
decreases-lines l = length l.rest
