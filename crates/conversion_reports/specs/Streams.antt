-- A file that comes from a reader in its own set and goes to a writer in UTF-8, and what standard error says of it.
use Rattle.std.specs.Prelude.{◌≡◌, ◌⊎◌, ℕ, ◌≤◌, List, Option, IfSome, Ok, length}
use Rattle.std.specs.Io.KnownBytes.{Appends, Keeps}
use Rattle.devices.specs.Devices.{AppendsBeginning}
use Rattle.character_sets.specs.declared.set.CharacterSet.{CharacterSet}
use Rattle.file_conversion.specs.declared.fault.ConversionError.{ConversionError}
use Rattle.file_conversion.specs.declared.fault.ConversionError.TheVariants.{OutOfMemory}
use Rattle.file_conversion.specs.Conversion.{set_of_file, text_of_file}
use Rattle.file_conversion.specs.Streams.{Begun, HasText, NotConverted, NotWritten, max_written}
use Rattle.conversion_reports.specs.Report.{report_text}

-- a text is written, or a beginning where the writer has failed in this call
abbrev pub IsReported : Type 0 → Option (List ℕ) → Option (List ℕ) → List ℕ → Type 0
IsReported Failed old new text = Appends old new text ⊎ (AppendsBeginning old new text × Failed)

-- the bytes of a file and the set that it was read in; the writer has got its text, and standard error the report
pub record ConvertedAloud (asked : Option CharacterSet) (set : CharacterSet)
    (known old new faults_old faults_new : Option (List ℕ)) (Failed : Type 0) : Type 0 where
  pub bytes : List ℕ
  pub read : IfSome known (λ b. b ≡ bytes)
  pub is : set_of_file asked bytes ≡ Ok set
  pub small : length (text_of_file set bytes) ≤ max_written
  pub written : Appends old new (text_of_file set bytes)
  pub reported : IsReported Failed faults_old faults_new (report_text asked set bytes)

-- the writer has got the text, but standard error found no memory for the report
pub record NotReported (asked : Option CharacterSet) (known old new faults_old faults_new : Option (List ℕ))
    (e : ConversionError) : Type 0 where
  pub bytes : List ℕ
  pub read : IfSome known (λ b. b ≡ bytes)
  pub set : CharacterSet
  pub is : set_of_file asked bytes ≡ Ok set
  pub why : e ≡ OutOfMemory
  pub written : Appends old new (text_of_file set bytes)
  pub begun : AppendsBeginning faults_old faults_new (report_text asked set bytes)

-- nothing was written and nothing reported; or a beginning was written and nothing reported; or the text was written,
-- and a beginning reported
abbrev pub NotConvertedAloud : Option CharacterSet → Option (List ℕ) → Option (List ℕ) → Option (List ℕ)
    → Option (List ℕ) → Option (List ℕ) → Type 0 → Type 0 → ConversionError → Type 0
NotConvertedAloud asked known old new faults_old faults_new ReadFailed WriteFailed e =
    (NotConverted asked known ReadFailed e × Keeps old new × Keeps faults_old faults_new)
    ⊎ ((Begun asked known old new WriteFailed e × Keeps faults_old faults_new)
    ⊎ NotReported asked known old new faults_old faults_new e)

-- the set of a file, its text and its report
pub record IsMade (asked : Option CharacterSet) (bytes : List ℕ) (set : CharacterSet) (text report : List ℕ)
    : Type 0 where
  pub text_is : HasText asked bytes set text
  pub report_is : report ≡ report_text asked set bytes

-- why not all was written and reported: a beginning of the text was written, and nothing reported; or the text was
-- written, and standard error found no memory
abbrev pub NotMade : Option (List ℕ) → Option (List ℕ) → Option (List ℕ) → Option (List ℕ) → Type 0 → List ℕ
    → List ℕ → ConversionError → Type 0
NotMade old new faults_old faults_new WriteFailed text report e =
    (NotWritten WriteFailed e × AppendsBeginning old new text × Keeps faults_old faults_new)
    ⊎ ((e ≡ OutOfMemory) × Appends old new text × AppendsBeginning faults_old faults_new report)
