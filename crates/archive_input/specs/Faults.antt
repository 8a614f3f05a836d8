-- The faults of a file of lines as refusals, each with its number and its name. A rule of our own.
use Rattle.gedcom_rules.specs.Faults.{Fault}
use Rattle.gedcom_rules.specs.declared.fault.TreeKind.{TreeKind}
use Rattle.gedcom_rules.specs.declared.fault.TreeKind.TheVariants as tree
use Rattle.record_text.specs.declared.refusal.Refusal.{Refusal}
use Rattle.record_text.specs.declared.refusal.RefusalKind.{RefusalKind}
use Rattle.record_text.specs.declared.refusal.RefusalKind.TheVariants as kind

abbrev pub kind_of : TreeKind → RefusalKind
kind_of tree.OutOfMemory = kind.OutOfMemory
kind_of tree.NotUtf8 = kind.NotUtf8
kind_of tree.BadLevel = kind.BadLevel
kind_of tree.BadXref = kind.BadXref
kind_of tree.BadTag = kind.BadTag
kind_of tree.TooLong = kind.TooLong
kind_of tree.Nul = kind.Nul
kind_of tree.LevelJump = kind.LevelJump
kind_of tree.NoHead = kind.NoHead
kind_of tree.NoTrailer = kind.NoTrailer
kind_of tree.AfterTrailer = kind.AfterTrailer
kind_of tree.BadContinuation = kind.BadContinuation
kind_of tree.ContinuationHasChildren = kind.ContinuationHasChildren
kind_of tree.DuplicateXref = kind.DuplicateXref
kind_of tree.FileTooLarge = kind.FileTooLarge
kind_of tree.TextTooLong = kind.TextTooLong
kind_of tree.Charset = kind.Charset
kind_of tree.Version = kind.Version
kind_of tree.ReadFailed = kind.ReadFailed
kind_of tree.WriteFailed = kind.WriteFailed

-- with the line that it speaks of
abbrev pub refusal_of : Fault → Refusal
refusal_of f = record { kind = kind_of f.kind; at = f.at }
