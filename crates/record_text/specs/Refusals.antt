-- Number and name of each refusal of the archive.
use Rattle.std.specs.Prelude.{ℕ, List, codes}
use Rattle.record_text.specs.declared.refusal.RefusalKind.{RefusalKind}
use Rattle.record_text.specs.declared.refusal.RefusalKind.TheVariants as kind
use Rattle.record_text.specs.declared.refusal.Unit.{Unit}
use Rattle.record_text.specs.declared.refusal.Unit.TheVariants as unit

abbrev pub number_of : RefusalKind → ℕ
number_of kind.OutOfMemory = 1
number_of kind.NotUtf8 = 10
number_of kind.BadLevel = 11
number_of kind.BadXref = 12
number_of kind.BadTag = 13
number_of kind.TooLong = 14
number_of kind.Nul = 15
number_of kind.LevelJump = 20
number_of kind.NoHead = 21
number_of kind.NoTrailer = 22
number_of kind.AfterTrailer = 23
number_of kind.BadContinuation = 24
number_of kind.ContinuationHasChildren = 25
number_of kind.DuplicateXref = 26
number_of kind.FileTooLarge = 27
number_of kind.TextTooLong = 28
number_of kind.Charset = 29
number_of kind.Version = 30
number_of kind.BadStored = 40
number_of kind.NoSuch = 50
number_of kind.WrongKind = 51
number_of kind.TokenReused = 52
number_of kind.StillNamed = 53
number_of kind.SamePerson = 54
number_of kind.MergeWithinFamily = 55
number_of kind.ChangedSince = 56
number_of kind.AlreadyUndone = 57
number_of kind.BadText = 58
number_of kind.AlreadyInFamily = 59
number_of kind.DuplicateEntry = 60
number_of kind.NoSuchMention = 61
number_of kind.NotOfKind = 62
number_of kind.Full = 63
number_of kind.NoSuchField = 64
number_of kind.NotMember = 65
number_of kind.StillCarried = 66
number_of kind.ExportTooLarge = 70
number_of kind.Storage = 80
number_of kind.Reopen = 81
number_of kind.NotAnArchive = 82
number_of kind.NewerSchema = 83
number_of kind.ImportOpen = 84
number_of kind.NoImport = 85
number_of kind.NotAllStaged = 86
number_of kind.DaysReversed = 87
number_of kind.BadRow = 90
number_of kind.UnknownVerb = 91
number_of kind.FieldCount = 92
number_of kind.BadToken = 93
number_of kind.ReadFailed = 94
number_of kind.WriteFailed = 95

abbrev pub name_of : RefusalKind → List ℕ
name_of kind.OutOfMemory = codes "OutOfMemory"
name_of kind.NotUtf8 = codes "NotUtf8"
name_of kind.BadLevel = codes "BadLevel"
name_of kind.BadXref = codes "BadXref"
name_of kind.BadTag = codes "BadTag"
name_of kind.TooLong = codes "TooLong"
name_of kind.Nul = codes "Nul"
name_of kind.LevelJump = codes "LevelJump"
name_of kind.NoHead = codes "NoHead"
name_of kind.NoTrailer = codes "NoTrailer"
name_of kind.AfterTrailer = codes "AfterTrailer"
name_of kind.BadContinuation = codes "BadContinuation"
name_of kind.ContinuationHasChildren = codes "ContinuationHasChildren"
name_of kind.DuplicateXref = codes "DuplicateXref"
name_of kind.FileTooLarge = codes "FileTooLarge"
name_of kind.TextTooLong = codes "TextTooLong"
name_of kind.Charset = codes "Charset"
name_of kind.Version = codes "Version"
name_of kind.BadStored = codes "BadStored"
name_of kind.NoSuch = codes "NoSuch"
name_of kind.WrongKind = codes "WrongKind"
name_of kind.TokenReused = codes "TokenReused"
name_of kind.StillNamed = codes "StillNamed"
name_of kind.SamePerson = codes "SamePerson"
name_of kind.MergeWithinFamily = codes "MergeWithinFamily"
name_of kind.ChangedSince = codes "ChangedSince"
name_of kind.AlreadyUndone = codes "AlreadyUndone"
name_of kind.BadText = codes "BadText"
name_of kind.AlreadyInFamily = codes "AlreadyInFamily"
name_of kind.DuplicateEntry = codes "DuplicateEntry"
name_of kind.NoSuchMention = codes "NoSuchMention"
name_of kind.NotOfKind = codes "NotOfKind"
name_of kind.Full = codes "Full"
name_of kind.NoSuchField = codes "NoSuchField"
name_of kind.NotMember = codes "NotMember"
name_of kind.StillCarried = codes "StillCarried"
name_of kind.ExportTooLarge = codes "ExportTooLarge"
name_of kind.Storage = codes "Storage"
name_of kind.Reopen = codes "Reopen"
name_of kind.NotAnArchive = codes "NotAnArchive"
name_of kind.NewerSchema = codes "NewerSchema"
name_of kind.ImportOpen = codes "ImportOpen"
name_of kind.NoImport = codes "NoImport"
name_of kind.NotAllStaged = codes "NotAllStaged"
name_of kind.DaysReversed = codes "DaysReversed"
name_of kind.BadRow = codes "BadRow"
name_of kind.UnknownVerb = codes "UnknownVerb"
name_of kind.FieldCount = codes "FieldCount"
name_of kind.BadToken = codes "BadToken"
name_of kind.ReadFailed = codes "ReadFailed"
name_of kind.WriteFailed = codes "WriteFailed"

-- the word for what the place of a refusal counts
abbrev pub unit_name : Unit → List ℕ
unit_name unit.Line = codes "line"
unit_name unit.Row = codes "row"
