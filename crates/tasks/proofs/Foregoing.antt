-- What is imported after looks is imported into the archive of before them.
use Rattle.std.proofs.Common.{◌≡◌, ℕ, List, Ok, Err, false, inl, inr}
use Rattle.std.specs.Prelude.{◌⊎◌, Option, IfErr, OnOk}
use Rattle.sqlite_trees.specs.declared.store.Store.{Ghosts}
use Rattle.archive_core.specs.Machine.{import_of}
use Rattle.archive_input.specs.Importing.{Imports, ImportsAll, ImportsSilently, TellsImported}
use Rattle.archive_input.proofs.Stepped.{clean_of, free_of, steps_then}
use Rattle.archive_output.specs.Reading.{OnlyReads}
use Rattle.receipts.specs.declared.answer.Answer.{Answer}
use Rattle.receipts.specs.declared.report.ReportLine.{ReportLine}
use Rattle.record_text.specs.declared.refusal.RefusalKind.{RefusalKind}
use Rattle.record_text.specs.declared.refusal.RefusalText.{RefusalText}
use Rattle.staging.specs.Counts.{RowCount}
use Rattle.store.specs.Histories.{Outcome}
use Rattle.store.specs.Shut.{is_shut}
use Rattle.store.specs.declared.archive.Archive.{Archive}
use Rattle.store.proofs.Viewed.{seen_of}
use Rattle.tasks.specs.Status.{Outcome as Ending, placeless_text}

module _ {S : Type 0} (g : Ghosts S) (old mid : Archive S g) (looks : OnlyReads g old mid)
    (sure : mid.is_lost ≡ false) (was : is_shut old ≡ false) where
  free : is_shut mid ≡ false
  free = free_of g old mid was sure looks.import

  module _ (token : List ℕ) (file : Option (List ℕ)) (new : Archive S g) where
    pub imports_before : (o : Outcome) → Imports g token file mid o new → Imports g token file old o new
    imports_before o all = record {
      forest = all.forest;
      read = all.read;
      done = steps_then g old mid was looks.stays new (import_of token all.forest, o) sure free all.done;
    }

    all_before : (answer : Answer) (report : List ReportLine) → ImportsAll g token file mid answer report new
        → ImportsAll g token file old answer report new
    unfolding imports_before
    all_before answer report all = (imports_before (Ok answer) all.0, all.1)

    untold_before : (t : RefusalText)
        → Imports g token file mid (Err t.refusal) new ⊎ ImportsSilently g token file mid t.refusal new
        → Imports g token file old (Err t.refusal) new ⊎ ImportsSilently g token file old t.refusal new
    unfolding imports_before
    untold_before t (inl all) = inl (imports_before (Err t.refusal) all)
    untold_before t (inr (answer, all, why)) = inr (answer, imports_before (Ok answer) all, why)

    pub done_before : (P : Answer → List ReportLine → Type 0) (o : Ending)
        → OnOk o ((answer : Answer) × (report : List ReportLine) × ImportsAll g token file mid answer report new
        × P answer report)
        → OnOk o ((answer : Answer) × (report : List ReportLine) × ImportsAll g token file old answer report new
        × P answer report)
    done_before P (Ok done) (answer, report, all, printed) = (answer, report, all_before answer report all, printed)
    done_before P (Err t) none = tt

    pub refused_before : (K : Type 0) (P : Answer → List ReportLine → RefusalKind → Type 0) (o : Ending)
        → IfErr o (λ t. ((Imports g token file mid (Err t.refusal) new
        ⊎ ImportsSilently g token file mid t.refusal new) × K)
        ⊎ ((answer : Answer) × (report : List ReportLine) × (kind : RefusalKind) × (t ≡ placeless_text kind)
        × ImportsAll g token file mid answer report new × P answer report kind))
        → IfErr o (λ t. ((Imports g token file old (Err t.refusal) new
        ⊎ ImportsSilently g token file old t.refusal new) × K)
        ⊎ ((answer : Answer) × (report : List ReportLine) × (kind : RefusalKind) × (t ≡ placeless_text kind)
        × ImportsAll g token file old answer report new × P answer report kind))
    refused_before K P (Ok done) none = tt
    refused_before K P (Err t) (inl (untold, k)) = inl (untold_before t untold, k)
    refused_before K P (Err t) (inr (answer, report, kind, same, all, part)) =
        inr (answer, report, kind, same, all_before answer report all, part)

    -- what is said of the archive that was read is said of that of before
    pub told_before : {F : Type 0} (Tells : F → RowCount → F → Type 0) (P : Answer → List ReportLine → Type 0)
        (o : Ending) (before after : F)
        → OnOk o ((answer : Answer) × (report : List ReportLine) × ImportsAll g token file mid answer report new
        × P answer report)
        → OnOk o (TellsImported g Tells token file mid new before after)
        → OnOk o (TellsImported g Tells token file old new before after)
    told_before Tells P (Ok done) before after (answer, report, all, printed) (forest, read, told) = (
      forest,
      read,
      λ clean society c rows settled keeps.
          let clean_mid = clean_of g mid new (Ok (import_of token all.0.forest, Ok answer)) free all.0.done clean in
          let stays = looks.stays clean_mid in
          told clean society c rows (stays.same sure rows c settled (seen_of keeps)) keeps,
    )
    told_before Tells P (Err t) before after none told = tt
