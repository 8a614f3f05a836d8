-- The status of what was asked for, and what is said on the faults where it is 0.
use Rattle.std.proofs.Common.{
  ◌≡◌,
  ◌⊎◌,
  ◌≤◌,
  ◌||◌,
  ℕ,
  Bool,
  List,
  true,
  false,
  arith,
  inl,
  inr,
  refl,
  ap,
  Ok,
  Err,
  true≢false,
}
use Rattle.std.specs.Prelude.{Option, None, Result, OnErr, OnOk, is_some}
use Rattle.std.specs.Io.KnownBytes.{Appends}
use Rattle.std.specs.declared.io.Read as read
use Rattle.std.specs.declared.io.Write as write
use Rattle.sqlite_disk.specs.declared.Disk as disk
use Rattle.sqlite_wal.specs.Recovery.{Image}
use Rattle.sqlite.specs.Files.{over_files}
use Rattle.archive_runs.specs.Reporting.{EndsBeside}
use Rattle.archive_runs.specs.Tasks.{EndsOnFile}
use Rattle.archive_state.specs.Content.{Content}
use Rattle.command_line.specs.declared.tasks.Asked.{Asked}
use Rattle.command_line.specs.declared.tasks.Asked.TheVariants as asked
use Rattle.archive_files.specs.declared.left.Left.{Left}
use Rattle.devices.specs.Devices.{AppendsBeginning}
use Rattle.devices.specs.declared.device.Device as device
use Rattle.parish.specs.Doing.{Does, DoesImport, DoesRows, DoesUnder, Finished, tells}
use Rattle.parish.specs.Lists.{find_task, list_task, review_task}
use Rattle.parish.specs.Rooms.{VisitsEnd}
use Rattle.parish.specs.Rows.{apply_task}
use Rattle.parish.specs.Tables.{entering_task, table_task}
use Rattle.parish.specs.declared.visits.Visits.{Visits}
use Rattle.reading_room.specs.Listening.{listening_line}
use Rattle.record_text.specs.declared.refusal.RefusalKind.TheVariants.{WriteFailed}
use Rattle.tasks.proofs.Quiet.{at_most_1, done_quiet, ends_at_most_1, ends_quietly, says}
use Rattle.tasks.specs.Moments.{Streams, at}
use Rattle.tasks.specs.Status.{Finishes, Outcome, Plain, as_text, placeless_text}
use Rattle.tasks.specs.declared.task.Task.{Task}
use Rattle.tasks.specs.declared.task.Task.TheVariants as task

on_ok : {A E P : Type 0} (r : Result A E) → P → OnOk r P
on_ok (Ok a) p = p
on_ok (Err e) p = tt

-- the status of a task on a file is 0 or 1
bound_of : {D S R W F : Type 0} {g : disk.Ghosts D} (reader : read.Ghosts R) (reads : device.Ghosts R)
    (writer : write.Ghosts W) (writes : device.Ghosts W) (faulter : write.Ghosts F) (fails : device.Ghosts F)
    (image : Image) (status : ℕ) (x y : Streams R W F) (left : Left S D g) (t : Task) (shown : Option Content)
    → EndsOnFile reader reads writer writes faulter fails image t x y status shown left → status ≤ 1
bound_of reader reads writer writes faulter fails image status x y left t shown (inl un) =
    at_most_1 faulter.contents fails.failed (Err (placeless_text un.kind)) status x.faults y.faults un.finishes
bound_of reader reads writer writes faulter fails image status x y left t shown (inr on) =
    ends_at_most_1 over_files reader reads writer writes faulter fails t (at on.taken x)
    (at on.new y) status shown on.ends

module _ {D S R W F : Type 0} {g : disk.Ghosts D} (reader : read.Ghosts R) (reads : device.Ghosts R)
    (writer : write.Ghosts W) (writes : device.Ghosts W) (faulter : write.Ghosts F) (fails : device.Ghosts F)
    (image : Image) (status : ℕ)
    (x y : Streams R W F) (left : Left S D g) (room : Option Visits) where
  -- ---- the status is 0 or 1
  converted_at_most_1 : (P Q : Type 0) → ((status ≡ 0) × P) ⊎ ((status ≡ 1) × Q) → status ≤ 1
  converted_at_most_1 P Q (inl done) = omega (arith, done.0)
  converted_at_most_1 P Q (inr refused) = omega (arith, refused.0)

  finished_at_most_1 : (P : Outcome → Type 0)
      → Finished reader reads writer writes faulter fails image status x y left room P → status ≤ 1
  finished_at_most_1 P did = at_most_1 faulter.contents fails.failed did.0 status x.faults y.faults did.2

  file_at_most_1 : (t : Task) (shown : Option Content)
      → EndsOnFile reader reads writer writes faulter fails image t x y status shown left → status ≤ 1
  file_at_most_1 t shown ends =
      bound_of reader reads writer writes faulter fails image status x y left t shown ends

  under_at_most_1 : (word : List ℕ) (t : Task)
      → DoesUnder reader reads writer writes faulter fails image status x y left room word t → status ≤ 1
  under_at_most_1 word t (inl none) = finished_at_most_1 _ none.0
  under_at_most_1 word t (inr did) = file_at_most_1 t did.1.0 did.1.1

  beside_at_most_1 : (token : List ℕ) (progress : Bool)
      → EndsBeside reader reads writer writes faulter fails image token progress x y status left → status ≤ 1
  beside_at_most_1 token progress (inl (between, ends, told)) =
      bound_of reader reads writer writes faulter fails image status x
      (record { input = y.input; output = y.output; faults = between }) left (task.Import token progress) None ends
  beside_at_most_1 token progress (inr o) =
      at_most_1 faulter.contents fails.failed (Err (placeless_text o.kind)) status x.faults y.faults o.said

  import_at_most_1 : (reported : Bool) (word : List ℕ) (progress : Bool)
      → DoesImport reader reads writer writes faulter fails image status x y left room reported word progress
      → status ≤ 1
  import_at_most_1 false word progress did = under_at_most_1 word (task.Import word progress) did
  import_at_most_1 true word progress (inl none) = finished_at_most_1 _ none.0
  import_at_most_1 true word progress (inr (token, inl unmade)) =
      omega (arith, unmade.0.0)
  import_at_most_1 true word progress (inr (token, inr did)) = beside_at_most_1 word progress did.0

  rows_at_most_1 : (expects stops : Bool)
      → DoesRows reader reads writer writes faulter fails image status x y left room expects stops → status ≤ 1
  rows_at_most_1 false stops did = file_at_most_1 (apply_task stops) did.0 did.1
  rows_at_most_1 true stops (inl none) = finished_at_most_1 _ none.0
  rows_at_most_1 true stops (inr did) = file_at_most_1 (task.ApplyAsExpected did.0 stops) did.1.0 did.1.1

  pub does_at_most_1 : (a : Asked) → Does reader reads writer writes faulter fails image status x y left room a
      → status ≤ 1
  does_at_most_1 asked.Norm did = finished_at_most_1 _ did.0
  does_at_most_1 asked.Check did = finished_at_most_1 _ did.0
  does_at_most_1 asked.CheckAll did = finished_at_most_1 _ did.0
  does_at_most_1 (asked.Convert from) did = converted_at_most_1 _ _ did.0
  does_at_most_1 (asked.Init file society) did = finished_at_most_1 _ did.0
  does_at_most_1 (asked.Apply file stops answers) did = rows_at_most_1 (is_some answers) stops did
  does_at_most_1 (asked.Entries file source token) did =
      under_at_most_1 token.now (task.Entries token.now source) did
  does_at_most_1 (asked.EnterTable file source form token) did =
      under_at_most_1 token.now (entering_task token.now source form) did
  does_at_most_1 (asked.CheckTable file source form) did =
      file_at_most_1 (table_task source form) did.0 did.1
  does_at_most_1 (asked.Import file token progress report) did =
      import_at_most_1 (is_some report) token.now progress did
  does_at_most_1 (asked.Export file) did =
      file_at_most_1 task.Export did.0 did.1
  does_at_most_1 (asked.ExportPublic file today) did =
      file_at_most_1 (task.ExportPublic today) did.0 did.1
  does_at_most_1 (asked.ExportPlain file) did =
      file_at_most_1 task.ExportPlain did.0 did.1
  does_at_most_1 (asked.ExportPublicPlain file today) did =
      file_at_most_1 (task.ExportPublicPlain today) did.0 did.1
  does_at_most_1 (asked.Sheet file which number generations today) did =
      file_at_most_1 (task.Sheet did.0 today) did.2.0 did.2.1
  does_at_most_1 (asked.Serve file port count today pages) did =
      file_at_most_1 (task.Library today) did.0 did.1
  does_at_most_1 (asked.Audit file) did =
      file_at_most_1 task.Audit did.0 did.1
  does_at_most_1 (asked.Days file first last words) did =
      file_at_most_1 (task.Days first last words) did.0 did.1
  does_at_most_1 (asked.List file which source after limit csv) did =
      file_at_most_1 (list_task which source after limit csv) did.0 did.1
  does_at_most_1 (asked.Find file words which limit csv) did =
      file_at_most_1 (find_task words which limit csv) did.0 did.1
  does_at_most_1 (asked.Show file numbers) did =
      file_at_most_1 (task.Show numbers) did.0 did.1
  does_at_most_1 (asked.History file number) did =
      file_at_most_1 (task.History number) did.0 did.1
  does_at_most_1 (asked.Review file csv) did =
      file_at_most_1 (review_task csv) did.0 did.1
  does_at_most_1 (asked.Completions text) did = finished_at_most_1 _ did.0
  does_at_most_1 (asked.Text text) did = finished_at_most_1 _ did.0

  -- ---- what is done says nothing on the faults, but for rows and the progress of an import
  finished_quietly : (P : Outcome → Type 0)
      → Finished reader reads writer writes faulter fails image status x y left room P → status ≡ 0
      → y.faults ≡ x.faults
  finished_quietly P did zero =
      done_quiet faulter.contents fails.failed did.0 status x.faults x.faults y.faults did.2 (on_ok did.0 refl) zero

  file_quietly : (t : Task) (shown : Option Content)
      → EndsOnFile reader reads writer writes faulter fails image t x y status shown left → says t ≡ false → status ≡ 0
      → y.faults ≡ x.faults
  file_quietly t shown (inl un) is zero =
      done_quiet faulter.contents fails.failed (Err (placeless_text un.kind)) status x.faults x.faults y.faults
      un.finishes tt zero
  file_quietly t shown (inr on) is zero =
      ends_quietly over_files reader reads writer writes faulter fails t (at on.taken x)
      (at on.new y) status shown on.ends is
      zero

  under_quietly : (word : List ℕ) (t : Task)
      → DoesUnder reader reads writer writes faulter fails image status x y left room word t → says t ≡ false
      → status ≡ 0
      → y.faults ≡ x.faults
  under_quietly word t (inl none) is zero = finished_quietly _ none.0 zero
  under_quietly word t (inr did) is zero = file_quietly t did.1.0 did.1.1 is zero

  import_quietly : (reported : Bool) (word : List ℕ) (progress : Bool)
      → DoesImport reader reads writer writes faulter fails image status x y left room reported word progress
      → (progress || reported) ≡ false → status ≡ 0 → y.faults ≡ x.faults
  import_quietly false word false did is zero = under_quietly word (task.Import word false) did refl zero
  import_quietly false word true did is zero = absurd (true≢false is)
  import_quietly true word false did is zero = absurd (true≢false is)
  import_quietly true word true did is zero = absurd (true≢false is)

  pub does_quietly : (a : Asked) → Does reader reads writer writes faulter fails image status x y left room a
      → tells a ≡ false → status ≡ 0 → y.faults ≡ x.faults
  does_quietly asked.Norm did is zero = finished_quietly _ did.0 zero
  does_quietly asked.Check did is zero = finished_quietly _ did.0 zero
  does_quietly asked.CheckAll did is zero = finished_quietly _ did.0 zero
  does_quietly (asked.Convert from) did is zero = absurd (true≢false is)
  does_quietly (asked.Init file society) did is zero = finished_quietly _ did.0 zero
  does_quietly (asked.Apply file stops answers) did is zero = absurd (true≢false is)
  does_quietly (asked.Entries file source token) did is zero =
      under_quietly token.now (task.Entries token.now source) did refl zero
  does_quietly (asked.EnterTable file source form token) did is zero = absurd (true≢false is)
  does_quietly (asked.CheckTable file source form) did is zero =
      file_quietly (table_task source form) did.0 did.1 refl zero
  does_quietly (asked.Import file token progress report) did is zero =
      import_quietly (is_some report) token.now progress did is zero
  does_quietly (asked.Export file) did is zero =
      file_quietly task.Export did.0 did.1 refl zero
  does_quietly (asked.ExportPublic file today) did is zero =
      file_quietly (task.ExportPublic today) did.0 did.1 refl zero
  does_quietly (asked.ExportPlain file) did is zero = absurd (true≢false is)
  does_quietly (asked.ExportPublicPlain file today) did is zero = absurd (true≢false is)
  does_quietly (asked.Sheet file which number generations today) did is zero =
      file_quietly (task.Sheet did.0 today) did.2.0 did.2.1 refl zero
  does_quietly (asked.Serve file port count today pages) did is zero =
      file_quietly (task.Library today) did.0 did.1 refl zero
  does_quietly (asked.Audit file) did is zero =
      file_quietly task.Audit did.0 did.1 refl zero
  does_quietly (asked.Days file first last words) did is zero =
      file_quietly (task.Days first last words) did.0 did.1 refl zero
  does_quietly (asked.List file which source after limit csv) did is zero =
      file_quietly (list_task which source after limit csv) did.0 did.1 refl zero
  does_quietly (asked.Find file words which limit csv) did is zero =
      file_quietly (find_task words which limit csv) did.0 did.1 refl zero
  does_quietly (asked.Show file numbers) did is zero =
      file_quietly (task.Show numbers) did.0 did.1 refl zero
  does_quietly (asked.History file number) did is zero =
      file_quietly (task.History number) did.0 did.1 refl zero
  does_quietly (asked.Review file csv) did is zero =
      file_quietly (review_task csv) did.0 did.1 refl zero
  does_quietly (asked.Completions text) did is zero = finished_quietly _ did.0 zero
  does_quietly (asked.Text text) did is zero = finished_quietly _ did.0 zero

-- ---- a room, once the file is closed
pub visits_end : (r : Plain) (port status : ℕ) (old new : Option (List ℕ)) (WriterFailed : Type 0) {F : Type 0}
    (said : F → Option (List ℕ)) (failed : F → ℕ) (quiet loud : F) → Finishes said failed (as_text r) status quiet loud
    → OnOk r (Appends old new (listening_line port)) → OnErr r (AppendsBeginning old new (listening_line port))
    → (r ≡ Err WriteFailed → WriterFailed) → VisitsEnd port status old new WriterFailed
visits_end (Ok done) port status old new WriterFailed said failed quiet loud f listens begun blamed = record {
  bound = omega (arith, f.0);
  done = λ zero. listens;
  refused = λ one. absurd (omega (arith, f.0, one));
}
visits_end (Err why) port status old new WriterFailed said failed quiet loud f listens begun blamed = record {
  bound = omega (arith, f.0);
  done = λ zero. absurd (omega (arith, f.0, zero));
  refused = λ one. (why, begun, λ is. blamed (ap Err is));
}
