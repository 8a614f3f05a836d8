-- A reader of a file in pieces: what it owes for the bytes that it has been fed.
use Rattle.std.specs.Prelude.{◌≡◌, ◌⊎◌, List, ℕ, Option, Some, None, Result, Ok, Err}
use Rattle.gedcom_rules.specs.Faults.{Fault, IsLineless, Decides, IsOpen, FaultOf}
use Rattle.gedcom_tree.specs.File.{ReadsFile}
use Rattle.gedcom_tree.specs.Forest.{Item}
use Rattle.gedcom_tree.specs.Reading.{Reader, reader_of}
use Rattle.gedcom_rules.specs.declared.fault.TreeKind.TheVariants.{OutOfMemory}

-- the reader has been fed these bytes, and has answered no fault
abbrev pub Holds : Reader → List ℕ → Type 0
Holds r b = r ≡ reader_of b

-- What `feed` answers once these are the bytes fed: nothing where no fault is decided, else the one that is, which the
-- reader keeps. Memory may be refused.
abbrev pub Takes : Reader → List ℕ → Option Fault → Type 0
Takes new b None = Holds new b × IsOpen b
Takes new b (Some f) = (new.answer ≡ Some f) × (IsLineless OutOfMemory f ⊎ Decides b f)

-- What `finish` answers where these were the bytes fed: the forest that they read as, or their fault. Memory may be
-- refused.
abbrev pub Finishes : List ℕ → Result (List Item) Fault → Type 0
Finishes b (Ok f) = ReadsFile b f
Finishes b (Err f) = IsLineless OutOfMemory f ⊎ FaultOf b f
