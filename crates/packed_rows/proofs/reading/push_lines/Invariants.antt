use Rattle.std.proofs.Common.{length}
use denote.Text.{Utf8}
use denote.Shadow.{shadow}
use Rattle.packed_rows.specs.Packed.{StoredLines, HaveText}
use Rattle.packed_rows.proofs.Found.{IsBehind}
use Rattle.packed_rows.proofs.reading.push_lines.Given as goal

abbrev pub invariant-lines : goal.invariant-lines
invariant-lines l = record {
  utf8 : shadow (Utf8 l.rest);
  behind : IsBehind l.fn.lines.items l.lines.items l.text l.rest;
  honest : (more : StoredLines) × HaveText l.text more → (ms : StoredLines) × HaveText l.rest ms;
}

abbrev pub decreases-lines : goal.decreases-lines
decreases-lines l = length l.rest
