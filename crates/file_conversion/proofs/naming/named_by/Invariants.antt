use Rattle.std.proofs.Common.{◌≡◌, ◌+◌, ◌≤◌, length}
use Rattle.character_sets.specs.Lines.{lines}
use Rattle.file_conversion.specs.Charsets.{named_by, named_in}
use Rattle.file_conversion.proofs.naming.named_by.Given as goal

abbrev pub invariant-lines : goal.invariant-lines
invariant-lines l = record {
  named : named_in l.reading.place l.reading.named l.reading.line (lines l.rest) ≡ named_by (lines l.fn.units);
  counted : l.reading.line + length l.rest ≤ length l.fn.units + 1;
}

abbrev pub decreases-lines : goal.decreases-lines
decreases-lines l = length l.rest
