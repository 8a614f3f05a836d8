-- A file that was imported, as the call that performed its request says.
use Rattle.std.proofs.Common.{◌≡◌, ◌⊎◌, ℕ, List, Result, Ok, Err, inl, inr}
use Rattle.std.specs.Prelude.{Option, IfErr, IfOk, OnOk}
use Rattle.sqlite_trees.specs.declared.store.Store.{Ghosts}
use Rattle.record_text.specs.declared.refusal.Refusal.{Refusal}
use Rattle.receipts.specs.declared.answer.Answer.{Answer}
use Rattle.receipts.specs.declared.report.ReportLine.{ReportLine}
use Rattle.gedcom_tree.specs.Forest.{Item}
use Rattle.import_definitions.specs.Report.{report}
use Rattle.store.specs.Histories.{Outcome}
use Rattle.store.specs.declared.archive.Archive.{Archive}
use Rattle.archive_input.specs.Applying.{Steps}
use Rattle.imports.specs.Results.{IsUnreported}
use Rattle.archive_input.specs.Importing.{Imports, ImportsAll, ImportsSilently, IsFileOf}
use Rattle.archive_core.specs.Machine.{import_of}

-- what is reported of the import of a forest, of the file that it was read from
pub file_told : {A E X : Type 0} (input : Option (List ℕ)) (Q : List Item → Type 0) (forest : List Item)
    → IsFileOf input forest → (r : Result A E) → (X → OnOk r (Q forest))
    → OnOk r ((found : List Item) × IsFileOf input found × (X → Q found))
file_told input Q forest read (Ok done) told = (forest, read, told)
file_told input Q forest read (Err e) told = tt

module _ {S : Type 0} (g : Ghosts S) (token : List ℕ) (input : Option (List ℕ)) (old new : Archive S g)
    (forest : List Item) (read : IsFileOf input forest) where
  abbrev Done : Outcome → Type 0
  Done o = Steps g (Ok (import_of token forest, o)) old new

  abbrev imported : (o : Outcome) → Done o → Imports g token input old o new
  imported o did = record { forest = forest; read = read; done = did }

  pub all_imported : (r : Result (Answer × List ReportLine) Refusal)
      → IfOk r (λ done. Steps g (Ok (import_of token forest, Ok done.0)) old new × (done.1 ≡ report forest))
      → IfOk r (λ done. ImportsAll g token input old done.0 done.1 new)
  all_imported (Ok done) h = (imported (Ok done.0) h.0, h.1)
  all_imported (Err e) h = tt

  pub none_imported : (r : Result (Answer × List ReportLine) Refusal)
      → IfErr r (λ e. Steps g (Ok (import_of token forest, Err e)) old new
      ⊎ ((answer : Answer) × Steps g (Ok (import_of token forest, Ok answer)) old new × IsUnreported forest e))
      → IfErr r (λ e. Imports g token input old (Err e) new ⊎ ImportsSilently g token input old e new)
  none_imported (Ok done) h = tt
  none_imported (Err e) (inl did) = inl (imported (Err e) did)
  none_imported (Err e) (inr (answer, did, why)) = inr (answer, imported (Ok answer) did, why)
