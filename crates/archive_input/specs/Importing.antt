-- What the import of a file does: the file is read as a forest, and one request makes all that it has. Rules of our
-- own.
use Rattle.std.specs.Prelude.{◌≡◌, ◌⊎◌, ℕ, List, Option, IfSome, Ok, Err}
use Rattle.sqlite_trees.specs.declared.store.Store.{Ghosts}
use Rattle.record_text.specs.declared.refusal.Refusal.{Refusal}
use Rattle.receipts.specs.declared.answer.Answer.{Answer}
use Rattle.receipts.specs.declared.report.ReportLine.{ReportLine}
use Rattle.gedcom_rules.specs.Faults.{Fault}
use Rattle.gedcom_tree.specs.File.{ReadsFile}
use Rattle.gedcom_tree.specs.Forest.{Item}
use Rattle.gedcom_tree.specs.Streams.{NotRead}
use Rattle.gedcom_tree.specs.Text.{IsForest}
use Rattle.import_definitions.specs.Report.{report}
use Rattle.archive_core.specs.Machine.{import_of}
use Rattle.imports.specs.Results.{IsUnreported}
use Rattle.sqlite.specs.Held.{state}
use Rattle.sqlite.specs.State.{HasCleanDisk}
use Rattle.staging.specs.Counts.{RowCount}
use Rattle.store.specs.Calls.{OnArchive}
use Rattle.store.specs.Histories.{Outcome}
use Rattle.store.specs.Telling.{TellsDone}
use Rattle.store.specs.declared.archive.Archive.{Archive}
use Rattle.archive_input.specs.Applying.{Steps}
use Rattle.archive_input.specs.Faults.{refusal_of}

-- the input is a file of that forest
abbrev pub IsFileOf : Option (List ℕ) → List Item → Type 0
IsFileOf input forest = IsForest forest × IfSome input (λ b. ReadsFile b forest)

-- the input is a file, and the request of its import was performed on the archive with this outcome
pub record Imports {S : Type 0} (g : Ghosts S) (token : List ℕ) (input : Option (List ℕ)) (old : Archive S g)
    (outcome : Outcome) (new : Archive S g) : Type 0 where
  pub forest : List Item
  pub read : IsFileOf input forest
  pub done : Steps g (Ok (import_of token forest, outcome)) old new

-- it was accepted, and this is the report of the file
abbrev pub ImportsAll : {S : Type 0} → (g : Ghosts S) → List ℕ → Option (List ℕ) → Archive S g → Answer
    → List ReportLine → Archive S g → Type 0
ImportsAll g token input old answer said new =
    (all : Imports g token input old (Ok answer) new) × (said ≡ report all.forest)

-- it was accepted, and of it was reported what is reported of a request that is done
abbrev pub TellsImported : {S P : Type 0} → (g : Ghosts S) → (P → RowCount → P → Type 0) → List ℕ → Option (List ℕ)
    → Archive S g → Archive S g → P → P → Type 0
TellsImported g Tells token input old new before after = (forest : List Item) × IsFileOf input forest
    × (HasCleanDisk (state g new.conn) → OnArchive (state g old.conn)
    (λ society c rows. TellsDone Tells c (import_of token forest) before after))

-- it was accepted, and there is no report
abbrev pub ImportsSilently : {S : Type 0} → (g : Ghosts S) → List ℕ → Option (List ℕ) → Archive S g → Refusal
    → Archive S g → Type 0
ImportsSilently g token input old e new =
    (answer : Answer) × (all : Imports g token input old (Ok answer) new) × IsUnreported all.forest e

-- why the input is no file; the reader is blamed only where it failed
abbrev pub IsNoFile : Option (List ℕ) → Refusal → Type 0 → Type 0
IsNoFile input e ReaderFailed = (f : Fault) × (e ≡ refusal_of f) × NotRead input ReaderFailed f

-- the import was refused or is in doubt; or it was done, and there is no report; or the input is no file, and the
-- archive is as it was
abbrev pub IsUntold : {S : Type 0} → (g : Ghosts S) → List ℕ → Option (List ℕ) → Archive S g → Refusal → Archive S g
    → Type 0 → Type 0
IsUntold g token input old e new ReaderFailed = Imports g token input old (Err e) new
    ⊎ (ImportsSilently g token input old e new ⊎ ((new ≡ old) × IsNoFile input e ReaderFailed))
