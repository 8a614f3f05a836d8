use Rattle.std.proofs.Common.{◌≡◌, ◌+◌, ◌≤◌, ◌++◌, length}
use Rattle.character_sets.specs.Lines.{lines}
use Rattle.file_conversion.specs.CharLines.{numbers_in, numbers_of, words_in, words_of}
use Rattle.file_conversion.proofs.char_values.char_lines.Given as goal

abbrev pub invariant-lines : goal.invariant-lines
invariant-lines l = record {
  changed : l.found.changed.items ++ numbers_in l.place l.line (lines l.rest) ≡ numbers_of (lines l.fn.units);
  words : l.found.words.items ++ words_in l.place (lines l.rest) ≡ words_of (lines l.fn.units);
  counted : l.line + length l.rest ≤ length l.fn.units + 1;
}

abbrev pub decreases-lines : goal.decreases-lines
decreases-lines l = length l.rest
