use Rattle.std.proofs.Common.{◌≡◌, ◌≤◌, ◌++◌, length, string_bytes}
use Rattle.character_sets.specs.Lines.{lines}
use Rattle.file_conversion.specs.Conversion.{text_of_lines, text_of_units}
use Rattle.file_conversion.proofs.converting.text_of_units.Given as goal

abbrev pub invariant-lines : goal.invariant-lines
invariant-lines l = record {
  text : string_bytes l.text ++ text_of_lines l.set l.carry.items (lines l.rest) ≡ text_of_units l.set l.fn.units;
  small : length (string_bytes l.text) ≤ 67108864;
}

abbrev pub decreases-lines : goal.decreases-lines
decreases-lines l = length l.rest
