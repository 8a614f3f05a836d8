-- What is said of files that come from a reader and go to a writer.
use Rattle.std.specs.Prelude.{◌≡◌, ◌⊎◌, ℕ, List, ◌++◌, length, Option, IfSome, Result, Ok, Err}
use Rattle.std.specs.Io.KnownBytes.{Appends, Consumes}
use Rattle.gedcom_rules.specs.declared.fault.TreeKind.{TreeKind}
use Rattle.gedcom_rules.specs.declared.fault.TreeKind.TheVariants.{OutOfMemory, ReadFailed, WriteFailed}
use Rattle.gedcom_rules.specs.Faults.{Fault, IsLineless, FaultOf}
use Rattle.gedcom_tree.specs.File.{ReadsFile}
use Rattle.gedcom_tree.specs.Reading.{Reader}
use Rattle.gedcom_tree.specs.State.{Holds}
use Rattle.gedcom_tree.specs.Forest.{Item}
use Rattle.gedcom_tree.specs.Text.{IsForest, text}
use Rattle.devices.specs.Devices.{AppendsBeginning}

-- the writer has got a front of the bytes, and the rest is kept in the buffer
pub record Handed (old new : Option (List ℕ)) (bytes rest : List ℕ) : Type 0 where
  pub front : List ℕ
  pub taken : Appends old new front
  pub parts : front ++ rest ≡ bytes

-- why something was not written: memory, or the writer, which has failed in this call
abbrev pub NotWritten : Type 0 → Fault → Type 0
NotWritten Failed f = IsLineless OutOfMemory f ⊎ (IsLineless WriteFailed f × Failed)

-- a refusal that speaks of a line of the file
abbrev pub IsOfFile : TreeKind → Type 0
IsOfFile OutOfMemory = ⊥
IsOfFile ReadFailed = ⊥
IsOfFile WriteFailed = ⊥
IsOfFile _ = Unit {0}

-- why no forest was read: memory, or the reader, which has failed in this call, or the fault of the bytes
abbrev pub NotRead : Option (List ℕ) → Type 0 → Fault → Type 0
NotRead known Failed f =
    IsLineless OutOfMemory f
    ⊎ ((IsLineless ReadFailed f × Failed) ⊎ (IsOfFile f.kind × IfSome known (λ b. FaultOf b f)))

-- a reader of a file has been fed all that there was, and has answered no fault
pub record HasFed (known : Option (List ℕ)) (r : Reader) : Type 0 where
  pub bytes : List ℕ
  pub holds : Holds r bytes
  pub all : IfSome known (λ b. bytes ≡ b)

-- it has been fed what was taken of it
pub record Feeds (known left : Option (List ℕ)) (r : Reader) (total : ℕ) : Type 0 where
  pub bytes : List ℕ
  pub holds : Holds r bytes
  pub read : Consumes known left bytes
  pub count : total ≡ length bytes

-- the forest of bytes, or why there is none
abbrev pub ReadAs : List ℕ → Result (List Item) Fault → Type 0
ReadAs bytes (Ok f) = ReadsFile bytes f
ReadAs bytes (Err f) = IsLineless OutOfMemory f ⊎ (IsOfFile f.kind × FaultOf bytes f)

-- the bytes read as a forest, whose text the writer has got
pub record Normalised (known old new : Option (List ℕ)) : Type 0 where
  pub forest : List Item
  pub is_forest : IsForest forest
  pub read : IfSome known (λ b. ReadsFile b forest)
  pub written : Appends old new (text forest)

-- the bytes read as a forest, of whose text the writer has got a beginning
pub record Begun (known old new : Option (List ℕ)) (Failed : Type 0) (f : Fault) : Type 0 where
  pub forest : List Item
  pub is_forest : IsForest forest
  pub read : IfSome known (λ b. ReadsFile b forest)
  pub why : NotWritten Failed f
  pub written : AppendsBeginning old new (text forest)
