-- The numbers and names of faults, in the one table of refusals, and a fault without a column and a cell.
use Rattle.std.specs.Prelude.{ℕ, List, codes}
use Rattle.table_pages.specs.declared.fault.FaultKind.{FaultKind}
use Rattle.table_pages.specs.declared.fault.FaultKind.TheVariants as kind
use Rattle.table_pages.specs.declared.fault.PageFault.{PageFault}

abbrev pub number_of : FaultKind → ℕ
number_of kind.BadText = 58
number_of kind.BadPath = 58
number_of kind.NotOfKind = 62
number_of kind.BeyondHeader = 92
number_of kind.NoMention = 92
number_of kind.ManyMentions = 92
number_of kind.UnknownColumn = 97
number_of kind.RepeatedColumn = 97
number_of kind.UnnamedColumn = 97
number_of kind.MissingColumn = 98
number_of _ = 90

abbrev pub name_of : FaultKind → List ℕ
name_of kind.BadText = codes "BadText"
name_of kind.BadPath = codes "BadText"
name_of kind.NotOfKind = codes "NotOfKind"
name_of kind.BeyondHeader = codes "FieldCount"
name_of kind.NoMention = codes "FieldCount"
name_of kind.ManyMentions = codes "FieldCount"
name_of kind.UnknownColumn = codes "UnknownColumn"
name_of kind.RepeatedColumn = codes "UnknownColumn"
name_of kind.UnnamedColumn = codes "UnknownColumn"
name_of kind.MissingColumn = codes "MissingColumn"
name_of _ = codes "BadRow"

abbrev pub fault : ℕ → FaultKind → List ℕ → List ℕ → PageFault
fault row kind column cell = record { row = row; kind = kind; column = column; cell = cell }
