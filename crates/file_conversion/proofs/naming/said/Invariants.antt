use Rattle.std.proofs.Common.{◌≡◌, ◌++◌, length}
use Rattle.character_sets.specs.Lines.{lines}
use Rattle.file_conversion.specs.Charsets.{said_in}
use Rattle.file_conversion.specs.declared.charsets.Place.TheVariants.{Start}
use Rattle.file_conversion.proofs.naming.said.Given as goal

abbrev pub invariant-lines : goal.invariant-lines
invariant-lines l = l.all.items ++ said_in l.named l.place (lines l.rest) ≡ said_in l.named Start (lines l.fn.units)

abbrev pub decreases-lines : goal.decreases-lines
decreases-lines l = length l.rest
