use Rattle.std.proofs.Common.{◌≡◌, refl}
use Rattle.gedcom_rules.specs.Refusals as tree
use Rattle.gedcom_rules.specs.declared.fault.TreeKind.{TreeKind}
use Rattle.gedcom_rules.specs.declared.fault.TreeKind.TheVariants as kind
use Rattle.record_text.specs.Refusals as refusals
use Rattle.archive_input.specs.Faults.{kind_of}
use Rattle.archive_input.proofs.laws.a_fault_is_refused_as_itself.Goals as goal

same_number : (k : TreeKind) → refusals.number_of (kind_of k) ≡ tree.number_of k
same_number kind.OutOfMemory = refl
same_number kind.NotUtf8 = refl
same_number kind.BadLevel = refl
same_number kind.BadXref = refl
same_number kind.BadTag = refl
same_number kind.TooLong = refl
same_number kind.Nul = refl
same_number kind.LevelJump = refl
same_number kind.NoHead = refl
same_number kind.NoTrailer = refl
same_number kind.AfterTrailer = refl
same_number kind.BadContinuation = refl
same_number kind.ContinuationHasChildren = refl
same_number kind.DuplicateXref = refl
same_number kind.FileTooLarge = refl
same_number kind.TextTooLong = refl
same_number kind.Charset = refl
same_number kind.Version = refl
same_number kind.ReadFailed = refl
same_number kind.WriteFailed = refl

same_name : (k : TreeKind) → refusals.name_of (kind_of k) ≡ tree.name_of k
same_name kind.OutOfMemory = refl
same_name kind.NotUtf8 = refl
same_name kind.BadLevel = refl
same_name kind.BadXref = refl
same_name kind.BadTag = refl
same_name kind.TooLong = refl
same_name kind.Nul = refl
same_name kind.LevelJump = refl
same_name kind.NoHead = refl
same_name kind.NoTrailer = refl
same_name kind.AfterTrailer = refl
same_name kind.BadContinuation = refl
same_name kind.ContinuationHasChildren = refl
same_name kind.DuplicateXref = refl
same_name kind.FileTooLarge = refl
same_name kind.TextTooLong = refl
same_name kind.Charset = refl
same_name kind.Version = refl
same_name kind.ReadFailed = refl
same_name kind.WriteFailed = refl

pub returns-clause-number : goal.returns-clause-number
returns-clause-number c = same_number

pub returns-clause-name : goal.returns-clause-name
returns-clause-name c = same_name
