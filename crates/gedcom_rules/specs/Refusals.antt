-- Number and name of each refusal of files.
use Rattle.std.specs.Prelude.{ℕ, List, codes}
use Rattle.gedcom_rules.specs.declared.fault.TreeKind.{TreeKind}
use Rattle.gedcom_rules.specs.declared.fault.TreeKind.TheVariants as kind

abbrev pub number_of : TreeKind → ℕ
number_of kind.OutOfMemory = 1
number_of kind.NotUtf8 = 10
number_of kind.BadLevel = 11
number_of kind.BadXref = 12
number_of kind.BadTag = 13
number_of kind.TooLong = 14
number_of kind.Nul = 15
number_of kind.LevelJump = 20
number_of kind.NoHead = 21
number_of kind.NoTrailer = 22
number_of kind.AfterTrailer = 23
number_of kind.BadContinuation = 24
number_of kind.ContinuationHasChildren = 25
number_of kind.DuplicateXref = 26
number_of kind.FileTooLarge = 27
number_of kind.TextTooLong = 28
number_of kind.Charset = 29
number_of kind.Version = 30
number_of kind.ReadFailed = 94
number_of kind.WriteFailed = 95

abbrev pub name_of : TreeKind → List ℕ
name_of kind.OutOfMemory = codes "OutOfMemory"
name_of kind.NotUtf8 = codes "NotUtf8"
name_of kind.BadLevel = codes "BadLevel"
name_of kind.BadXref = codes "BadXref"
name_of kind.BadTag = codes "BadTag"
name_of kind.TooLong = codes "TooLong"
name_of kind.Nul = codes "Nul"
name_of kind.LevelJump = codes "LevelJump"
name_of kind.NoHead = codes "NoHead"
name_of kind.NoTrailer = codes "NoTrailer"
name_of kind.AfterTrailer = codes "AfterTrailer"
name_of kind.BadContinuation = codes "BadContinuation"
name_of kind.ContinuationHasChildren = codes "ContinuationHasChildren"
name_of kind.DuplicateXref = codes "DuplicateXref"
name_of kind.FileTooLarge = codes "FileTooLarge"
name_of kind.TextTooLong = codes "TextTooLong"
name_of kind.Charset = codes "Charset"
name_of kind.Version = codes "Version"
name_of kind.ReadFailed = codes "ReadFailed"
name_of kind.WriteFailed = codes "WriteFailed"
