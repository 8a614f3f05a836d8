-- What is said of the list of a file that comes from a reader and goes to a writer.
use Rattle.std.specs.Prelude.{◌≡◌, ◌⊎◌, ℕ, List, Option, IfSome}
use Rattle.std.specs.Io.KnownBytes.{Appends, Keeps}
use Rattle.devices.specs.Devices.{AppendsBeginning}
use Rattle.gedcom_rules.specs.declared.fault.TreeKind.TheVariants.{OutOfMemory, ReadFailed}
use Rattle.gedcom_rules.specs.Faults.{Fault, FaultOf, IsLineless}
use Rattle.gedcom_rules.specs.Views.{fault_view}
use Rattle.gedcom_tree.specs.File.{ReadsFile}
use Rattle.gedcom_tree.specs.Forest.{Item}
use Rattle.gedcom_tree.specs.Streams.{NotWritten}
use Rattle.gedcom_tree.specs.Text.{record_count}
use Rattle.file_faults.specs.declared.streams.Checked.{Checked}
use Rattle.file_faults.specs.declared.streams.Checked.TheVariants as checked
use Rattle.file_faults.specs.Faults.{faults}
use Rattle.file_faults.specs.Shown.{listing}

-- the bytes read as a forest of so many records, or this is their fault
abbrev pub IsFirst : List ℕ → Checked → Type 0
IsFirst b (checked.Sound n) = (f : List Item) × (ReadsFile b f × (n ≡ record_count f))
IsFirst b (checked.Faulty t) = FaultOf b (fault_view t)

-- what is known to be read is so, and the writer has got the list of all its faulty lines; it is empty of a file that
-- reads as a forest
pub record Lists (known old new : Option (List ℕ)) (c : Checked) : Type 0 where
  pub text : List ℕ
  pub first : IfSome known (λ b. IsFirst b c)
  pub list : IfSome known (λ b. text ≡ listing (faults b))
  pub written : Appends old new text

-- the writer has got a beginning of that list
pub record Begins (known old new : Option (List ℕ)) (Failed : Type 0) (f : Fault) : Type 0 where
  pub text : List ℕ
  pub list : IfSome known (λ b. text ≡ listing (faults b))
  pub why : NotWritten Failed f
  pub written : AppendsBeginning old new text

-- why a file was not read, and nothing is written: memory, or the reader, which has failed in this call
abbrev pub Unread : Option (List ℕ) → Option (List ℕ) → Type 0 → Fault → Type 0
Unread old new Failed f = (IsLineless OutOfMemory f ⊎ (IsLineless ReadFailed f × Failed)) × Keeps old new
