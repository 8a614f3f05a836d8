-- Number of each fault of a line, in the table of refusals (docs/REFUSALS.md).
use Rattle.std.specs.Prelude.{ℕ}
use Rattle.gedcom_line.specs.declared.fault.LineKind.{LineKind}
use Rattle.gedcom_line.specs.declared.fault.LineKind.TheVariants as kind

abbrev pub number_of : LineKind → ℕ
number_of kind.NotUtf8 = 10
number_of kind.BadLevel = 11
number_of kind.BadXref = 12
number_of kind.BadTag = 13
number_of kind.Nul = 15
