-- How an import ends whose file was read before.
use Rattle.std.proofs.Common.{◌≡◌, ◌∙◌, ℕ, List, Bool, Ok, Err, false, true, inl, inr, refl, sym, true≢false}
use Rattle.std.specs.Prelude.{◌⊎◌, None, Result, IfErr, OnOk}
use Rattle.std.specs.Io.KnownBytes.{Appends, Keeps}
use Rattle.std.specs.declared.io.Read as read
use Rattle.std.specs.declared.io.Write as write
use Rattle.sqlite_trees.specs.declared.store.Store.{Ghosts}
use Rattle.archive_input.specs.Importing.{Imports, ImportsAll, ImportsSilently, IsNoFile, TellsImported}
use Rattle.archive_input.specs.Telling.{import_text}
use Rattle.devices.specs.Devices.{Rose}
use Rattle.devices.specs.declared.device.Device as device
use Rattle.list_laws.proofs.Outcomes.{keeps}
use Rattle.receipts.specs.declared.answer.Answer.{Answer}
use Rattle.receipts.specs.declared.report.ReportLine.{ReportLine}
use Rattle.record_text.specs.declared.refusal.RefusalKind.{RefusalKind}
use Rattle.record_text.specs.declared.refusal.RefusalKind.TheVariants.{Reopen}
use Rattle.record_text.specs.declared.refusal.RefusalText.{RefusalText}
use Rattle.store.specs.Telling.{TellsImport}
use Rattle.tasks.specs.Counts.{SaysCount, SaysPart}
use Rattle.tasks.specs.Ends.{Ends}
use Rattle.tasks.specs.Moments.{Moment}
use Rattle.tasks.specs.Parts.{IsPrintedPart}
use Rattle.tasks.specs.Status.{Finishes, Outcome, placeless_text}
use Rattle.tasks.specs.declared.task.Task.TheVariants as task
use Rattle.tasks.proofs.Aloud.{says_far}

-- one more way to be refused first
pub widen : {X E : Type 0} (r : Result X E) (A B C D : E → Type 0) (K : Type 0)
    → IfErr r (λ e. ((A e ⊎ B e) × K) ⊎ D e) → IfErr r (λ e. ((A e ⊎ (B e ⊎ C e)) × K) ⊎ D e)
widen (Ok x) A B C D K h = tt
widen (Err e) A B C D K (inl (inl a, k)) = inl (inl a, k)
widen (Err e) A B C D K (inl (inr b, k)) = inl (inr (inl b), k)
widen (Err e) A B C D K (inr d) = inr d

module _ {S R W F : Type 0} (g : Ghosts S) (reader : read.Ghosts R) (reads : device.Ghosts R) (writer : write.Ghosts W)
    (writes : device.Ghosts W) (faulter : write.Ghosts F) (fails : device.Ghosts F) (token : List ℕ) (progress : Bool)
    (a b : Moment g R W F) (status : ℕ) where
  abbrev Ended : Type 0
  Ended = Ends g reader reads writer writes faulter fails (task.Import token progress) a b status None

  abbrev Untold : RefusalText → Type 0
  Untold t = Imports g token (reader.remaining a.input) a.archive (Err t.refusal) b.archive
      ⊎ ImportsSilently g token (reader.remaining a.input) a.archive t.refusal b.archive

  abbrev Printed : Answer → List ReportLine → Type 0
  Printed answer report = ImportsAll g token (reader.remaining a.input) a.archive answer report b.archive

  abbrev InPart : RefusalText → Type 0
  InPart t = (answer : Answer) × (report : List ReportLine) × (kind : RefusalKind) × (t ≡ placeless_text kind)
      × Printed answer report × IsPrintedPart (import_text answer report) kind (writer.contents a.output)
      (writer.contents b.output) (Rose (writes.failed a.output) (writes.failed b.output))

  -- the import of a file that was read
  pub ends_import : (outcome : Outcome) (between : F) → a.archive.is_lost ≡ false
      → OnOk outcome ((answer : Answer) × (report : List ReportLine) × Printed answer report
      × Appends (writer.contents a.output) (writer.contents b.output) (import_text answer report))
      → IfErr outcome (λ t. (Untold t × Keeps (writer.contents a.output) (writer.contents b.output)) ⊎ InPart t)
      → (progress ≡ false → between ≡ a.faults)
      → (progress ≡ true → TellsImport (SaysPart faulter.contents fails.failed) a.faults between)
      → (progress ≡ true → OnOk outcome (TellsImported g (SaysCount faulter.contents fails.failed) token
      (reader.remaining a.input) a.archive b.archive a.faults between))
      → Finishes faulter.contents fails.failed outcome status between b.faults → Ended
  ends_import outcome between kept imported refused silent told told_done finishes = record {
    outcome = outcome;
    between = between;
    does = λ _. (
      record {
        imported = imported;
        refused = widen outcome
            (λ t. Imports g token (reader.remaining a.input) a.archive (Err t.refusal) b.archive)
            (λ t. ImportsSilently g token (reader.remaining a.input) a.archive t.refusal b.archive)
            (λ t. (b.archive ≡ a.archive) × IsNoFile (reader.remaining a.input) t.refusal
            (Rose (reads.failed a.input) (reads.failed b.input))) InPart
            (Keeps (writer.contents a.output) (writer.contents b.output)) refused;
      },
      says_far g reader reads writer writes faulter fails a
          (record { archive = b.archive; input = b.input; output = b.output; faults = between }) progress token outcome
          silent told told_done,
      refl,
    );
    reopen = λ lost. absurd (true≢false (sym lost ∙ kept));
    finishes = finishes;
  }

  -- one of an input that is no file
  pub ends_unread : (t : RefusalText) → b.archive ≡ a.archive → b.output ≡ a.output → a.archive.is_lost ≡ false
      → IsNoFile (reader.remaining a.input) t.refusal (Rose (reads.failed a.input) (reads.failed b.input))
      → Finishes faulter.contents fails.failed (Err t) status a.faults b.faults → Ended
  ends_unread t same unwritten kept no_file finishes = record {
    outcome = Err t;
    between = a.faults;
    does = λ _. (
      record {
        imported = tt;
        refused = inl (
          inr (inr (same, no_file)),
          rw unwritten (keeps (writer.contents a.output)),
        );
      },
      says_far g reader reads writer writes faulter fails a
          (record { archive = b.archive; input = b.input; output = b.output; faults = a.faults }) progress token (Err t)
          (λ _. refl) (λ _. inl refl) (λ _. tt),
      refl,
    );
    reopen = λ lost. absurd (true≢false (sym lost ∙ kept));
    finishes = finishes;
  }

  -- one into an archive that was lost before
  pub ends_lost : b.archive ≡ a.archive → b.input ≡ a.input → b.output ≡ a.output → a.archive.is_lost ≡ true
      → Finishes faulter.contents fails.failed (Err (placeless_text Reopen)) status a.faults b.faults → Ended
  ends_lost same unread unwritten lost finishes = record {
    outcome = Err (placeless_text Reopen);
    between = a.faults;
    does = λ kept. absurd (true≢false (sym lost ∙ kept));
    reopen = λ _. (
      refl,
      refl,
      rw same (rw unread (rw unwritten refl)),
    );
    finishes = finishes;
  }
