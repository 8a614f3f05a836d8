-- Number of each fault of dates, of the one table of refusals.
use Rattle.std.specs.Prelude.{ℕ}
use Rattle.gedcom_date.specs.declared.fault.DateKind.{DateKind}
use Rattle.gedcom_date.specs.declared.fault.DateKind.TheVariants as kind

abbrev pub number_of : DateKind → ℕ
number_of kind.OutOfMemory = 1
