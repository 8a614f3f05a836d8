-- How an import ends whose report was written first, or has none.
use Rattle.std.proofs.Common.{◌≡◌, ℕ, List, Bool, Ok, Err, false, inl, inr, refl, subst, sym, true, true≢false}
use Rattle.std.specs.Prelude.{◌⊎◌, IfErr, OnOk}
use Rattle.std.specs.Io.KnownBytes.{Appends, Keeps}
use Rattle.std.specs.declared.io.Read as read
use Rattle.std.specs.declared.io.Write as write
use Rattle.sqlite.specs.Held.{state}
use Rattle.sqlite_trees.specs.declared.store.Store.{Ghosts}
use Rattle.archive_input.specs.Importing.{Imports, ImportsAll, ImportsSilently, IsFileOf, TellsImported}
use Rattle.archive_input.specs.Telling.{import_text}
use Rattle.archive_output.specs.Reading.{OnlyReads}
use Rattle.archive_tables.specs.Ends.{OnRead}
use Rattle.devices.specs.Devices.{Rose}
use Rattle.devices.specs.declared.device.Device as device
use Rattle.gedcom_tree.specs.Forest.{Item}
use Rattle.import_reports.specs.Writing.{EndsReport}
use Rattle.receipts.specs.declared.answer.Answer.{Answer}
use Rattle.receipts.specs.declared.report.ReportLine.{ReportLine}
use Rattle.record_text.specs.declared.refusal.RefusalKind.{RefusalKind}
use Rattle.store.specs.Telling.{TellsImport}
use Rattle.store.specs.declared.archive.Archive.{Archive}
use Rattle.tasks.specs.Counts.{SaysCount, SaysPart}
use Rattle.tasks.specs.Moments.{Moment}
use Rattle.tasks.specs.Parts.{IsPrintedPart}
use Rattle.tasks.specs.Reporting.{EndsReported, ImportsAfter, ReportsFirst, SaysDoneBefore, is_kept, may_be_done}
use Rattle.tasks.specs.Status.{Finishes, Outcome, placeless_text}
use Rattle.tasks.proofs.Foregoing.{done_before, refused_before, told_before}
use Rattle.tasks.proofs.Reported.{ends_import}

module _ {S R W F P : Type 0} (g : Ghosts S) (reader : read.Ghosts R) (reads : device.Ghosts R)
    (writer : write.Ghosts W) (writes : device.Ghosts W) (faulter : write.Ghosts F) (fails : device.Ghosts F)
    (reporter : write.Ghosts P) (reports : device.Ghosts P) (token : List ℕ) (progress : Bool)
    (old mid new : Archive S g) (input input_new : R) (output output_new : W) (faults between : F) (outcome : Outcome)
    (status : ℕ) where
  abbrev At : Archive S g → Moment g R W F
  At archive = record { archive = archive; input = input; output = output; faults = faults }

  abbrev Then : F → Moment g R W F
  Then said = record { archive = new; input = input_new; output = output_new; faults = said }

  abbrev Printed : Answer → List ReportLine → Type 0
  Printed answer report =
      Appends (writer.contents output) (writer.contents output_new) (import_text answer report)

  abbrev InPart : Answer → List ReportLine → RefusalKind → Type 0
  InPart answer report kind = IsPrintedPart (import_text answer report) kind (writer.contents output)
      (writer.contents output_new) (Rose (writes.failed output) (writes.failed output_new))

  abbrev Unprinted : Type 0
  Unprinted = Keeps (writer.contents output) (writer.contents output_new)

  abbrev Done : Archive S g → Type 0
  Done from = OnOk outcome ((answer : Answer) × (report : List ReportLine)
      × ImportsAll g token (reader.remaining input) from answer report new × Printed answer report)

  abbrev Refused : Archive S g → Type 0
  Refused from = IfErr outcome (λ t. ((Imports g token (reader.remaining input) from (Err t.refusal) new
      ⊎ ImportsSilently g token (reader.remaining input) from t.refusal new) × Unprinted)
      ⊎ ((answer : Answer) × (report : List ReportLine) × (kind : RefusalKind) × (t ≡ placeless_text kind)
      × ImportsAll g token (reader.remaining input) from answer report new × InPart answer report kind))

  abbrev Told : Archive S g → Type 0
  Told from = progress ≡ true → OnOk outcome (TellsImported g (SaysCount faulter.contents fails.failed) token
      (reader.remaining input) from new faults between)

  -- the report is kept, unless the import was refused for certain
  first_or_withdrawn : (o : Outcome) (report report_new : P) (said last : F) (may : Bool) → may_be_done o ≡ may
      → ReportsFirst g reader reads writer writes faulter fails reporter reports token progress (At old) report
      report_new (Then last) status
      → Finishes faulter.contents fails.failed o status said last
      → EndsReported g reader reads writer writes faulter fails reporter reports token progress (At old) report
      report_new (Then last) status may
  first_or_withdrawn o report report_new said last true same first finishes = first
  first_or_withdrawn (Ok done) report report_new said last false same first finishes = absurd (true≢false same)
  first_or_withdrawn (Err why) report report_new said last false same first finishes =
      inr (inr (inr (record { first = first; why = why; certain = same; between = said; said = finishes })))

  module _ (kept : old.is_lost ≡ false) (sure : mid.is_lost ≡ false) (looks : OnlyReads g old mid) (done : Done mid)
      (refused : Refused mid) (silent : progress ≡ false → between ≡ faults)
      (told : progress ≡ true → TellsImport (SaysPart faulter.contents fails.failed) faults between)
      (told_done : Told mid) where
    after_of : (report report_new : P) (said : F) → Finishes faulter.contents fails.failed outcome status between said
        → ImportsAfter g reader reads writer writes faulter fails reporter reports token progress (At old) report
        report_new mid (Then said) status
    after_of report report_new said finishes = record {
      after = ends_import g reader reads writer writes faulter fails token progress (At mid) (Then said) status outcome
          between sure done refused silent told told_done finishes;
      before = λ was. ends_import g reader reads writer writes faulter fails token progress (At old) (Then said) status
          outcome between kept
          (done_before g old mid looks sure was token (reader.remaining input) new Printed outcome done)
          (refused_before g old mid looks sure was token (reader.remaining input) new Unprinted InPart outcome refused)
          silent told
          (λ asked. told_before g old mid looks sure was token (reader.remaining input) new
          (SaysCount faulter.contents fails.failed) Printed outcome faults between done (told_done asked))
          finishes;
    }

    pub reported : (forest : List Item) (report report_new : P) (said last : F) (whole : Bool)
        → IsFileOf (reader.remaining input) forest
        → OnRead (state g old.conn) (state g mid.conn)
        (EndsReport (Ok whole) (reporter.contents report) (reporter.contents report_new) token forest)
        → (whole ≡ false → report_new ≡ report)
        → Finishes faulter.contents fails.failed outcome status between said → (whole ≡ true → last ≡ said)
        → (whole ≡ false → SaysDoneBefore faulter.contents fails.failed status said last)
        → EndsReported g reader reads writer writes faulter fails reporter reports token progress (At old) report
        report_new (Then last) status (is_kept whole outcome)
    reported forest report report_new said last true file ends none finishes quiet loud =
        let finished = subst (Finishes faulter.contents fails.failed outcome status between) (sym (quiet refl))
        finishes in
        first_or_withdrawn outcome report report_new between last (may_be_done outcome) refl (record {
          read = mid;
          reports = record { forest = forest; file = file; ends = ends; looks = looks };
          imports = after_of report report_new last finished;
        })
        finished
    reported forest report report_new said last false file ends none finishes quiet loud = inl (record {
      read = mid;
      reports = record { forest = forest; file = file; ends = ends; looks = looks };
      unwritten = none refl;
      between = said;
      imports = after_of report report_new said finishes;
      said = loud refl;
    })
