use Rattle.std.proofs.Common.{◌≡◌, length}
use Rattle.character_sets.specs.Lines.{lines}
use Rattle.file_conversion.specs.Conversion.{are_whole, is_utf8}
use Rattle.file_conversion.proofs.deciding.are_utf8.Given as goal

abbrev pub invariant-lines : goal.invariant-lines
invariant-lines l = are_whole l.carry.items (lines l.rest) ≡ is_utf8 l.fn.units

abbrev pub decreases-lines : goal.decreases-lines
decreases-lines l = length l.rest
