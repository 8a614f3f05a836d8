-- What was asked for is a run that loses nothing, by what is said of tasks on the file and of runs without one.
use Rattle.std.proofs.Common.{
  ◌≡◌,
  ◌∙◌,
  ◌++◌,
  ◌∷◌,
  [],
  ℕ,
  List,
  Some,
  None,
  Ok,
  Err,
  ap,
  arith,
  inl,
  inr,
  refl,
  subst,
  sym,
}
use Rattle.std.specs.Prelude.{Option, Bool, IfErr, OnOk, false, is_some, true}
use Rattle.std.specs.declared.io.Read as read
use Rattle.std.specs.declared.io.Write as write
use Rattle.sqlite_disk.specs.declared.Disk as disk
use Rattle.sqlite_wal.specs.Recovery.{Image}
use Rattle.archive_runs.specs.Reporting.{EndsBeside}
use Rattle.archive_runs.specs.Tasks.{EndsOnFile}
use Rattle.archive_files.specs.Made.{IsMadeIn, Unmade}
use Rattle.archive_state.specs.Content.{Content, nothing}
use Rattle.command_line.specs.declared.tasks.Asked.{Asked}
use Rattle.command_line.specs.declared.tasks.Asked.TheVariants as asked
use Rattle.archive_files.specs.DatabaseOpening.{IsUntouched}
use Rattle.archive_files.specs.declared.left.Left.{Left}
use Rattle.devices.specs.declared.device.Device as device
use Rattle.parish.specs.Doing.{Does, DoesImport, DoesRows, DoesTask, DoesUnder, Finished, IsNoToken}
use Rattle.parish.specs.Lists.{find_task, list_task, review_task}
use Rattle.parish.specs.Rows.{apply_task}
use Rattle.parish.specs.Tables.{entering_task, table_task}
use Rattle.parish.specs.Runs.{HasRows, IsRun}
use Rattle.parish.specs.declared.visits.Visits.{Visits}
use Rattle.archive_runs.specs.Runs.{Carries, Run, Stands}
use Rattle.archive_runs.specs.Beginning.{HasNoTask, idle}
use Rattle.archive_runs.specs.Seeing.{IsSeen, IsSeenAs}
use Rattle.tasks.specs.Moments.{Streams}
use Rattle.tasks.specs.Status.{Finishes, Outcome, Plain, as_text}
use Rattle.tasks.specs.declared.task.Task.{Task}
use Rattle.tasks.specs.declared.task.Task.TheVariants as task

none_seen : (seen unseen : List ℕ) → Some (seen ++ unseen) ≡ Some [] → seen ≡ []
none_seen [] unseen none = refl
none_seen (b ∷ seen) unseen none = cc

-- of an output that is as it was, nothing was seen
pub unwritten : {R W F : Type 0} (reader : read.Ghosts R) (writer : write.Ghosts W) (x y : Streams R W F)
    (bytes seen unseen : List ℕ) → IsSeen reader writer x y bytes seen unseen → y.output ≡ x.output → seen ≡ []
unwritten {R} {W} reader writer x y bytes seen unseen s same =
    none_seen seen unseen (sym s.writes ∙ ap (λ (w : W). writer.contents w) same ∙ s.begins)

module _ {R W F D S : Type 0} {g : disk.Ghosts D} (reader : read.Ghosts R) (reads : device.Ghosts R)
    (writer : write.Ghosts W) (writes : device.Ghosts W) (faulter : write.Ghosts F) (fails : device.Ghosts F)
    (image after : Image) (status : ℕ)
    (x y : Streams R W F) (left : Left S D g) (room : Option Visits) (bytes seen unseen : List ℕ) (ended : Option ℕ)
    (as_seen : IsSeenAs status unseen ended) where
  abbrev run : Option Task → Run
  run t = record { task = t; input = bytes; written = seen; status = ended }

  module _
      (performed : (t : Task) (shown : Option Content)
      → EndsOnFile reader reads writer writes faulter fails image t x y status shown left
      → Carries image (run (Some t)) after)
      (untried : (t : Task) → IsUntouched left → y.output ≡ x.output → status ≡ 1
      → Carries image (run (Some t)) after)
      (besides : (token : List ℕ) (progress : Bool)
      → EndsBeside reader reads writer writes faulter fails image token progress x y status left
      → Carries image (run (Some (task.Import token progress))) after)
      (idles : (society : List ℕ) → HasNoTask image society left → Carries image (idle bytes seen ended) after)
      (begins : (society : List ℕ) → IsMadeIn image society left → ∥ Stands society nothing after ∥₁)
    where
      -- ---- tasks
      performs : (t : Task) → DoesTask reader reads writer writes faulter fails image status x y left room t
          → Carries image (run (Some t)) after
      performs t did = performed t did.0 did.1

      no_token : (word : List ℕ)
          → Finished reader reads writer writes faulter fails image status x y left room
          (IsNoToken reader reads writer writes faulter fails image status x y left room word) → status ≡ 1
      no_token word done =
          (subst (λ (o : Outcome). Finishes faulter.contents fails.failed o status x.faults y.faults) done.1.1 done.2).0

      under : (word : List ℕ) (t : Task)
          → DoesUnder reader reads writer writes faulter fails image status x y left room word t
          → Carries image (run (Some t)) after
      under word t (inl bad) = untried t bad.3.0 bad.2 (no_token word bad.0)
      under word t (inr did) = performs t did.1

      imported : (reported : Bool) (word : List ℕ) (progress : Bool)
          → DoesImport reader reads writer writes faulter fails image status x y left room reported word progress
          → Carries image (run (Some (task.Import word progress))) after
      imported false word progress did = under word (task.Import word progress) did
      imported true word progress (inl bad) =
          untried (task.Import word progress) bad.3.0 bad.2 (no_token word bad.0)
      imported true word progress (inr (token, inl unmade)) =
          untried (task.Import word progress) unmade.3 unmade.2 unmade.0.0
      imported true word progress (inr (token, inr did)) = besides word progress did.0

      -- rows of which answers may be expected
      rows_run : (expects stops : Bool)
          → DoesRows reader reads writer writes faulter fails image status x y left room expects stops
          → (t : Option Task) × HasRows expects stops t × Carries image (run t) after
      rows_run false stops did = (Some (apply_task stops), refl, performs (apply_task stops) did)
      rows_run true stops (inl none) = (None, inl refl, idles [] (inl none.3.0))
      rows_run true stops (inr did) =
          let t = task.ApplyAsExpected did.0 stops in (Some t, inr (did.0, refl), performs t did.1)

      -- ---- a new archive
      made_or_not : (society : List ℕ) (r : Plain) → OnOk r (IsMadeIn image society left)
          → IfErr r (λ kind. Unmade image society kind left) → HasNoTask image society left
      made_or_not society (Ok _) made un = inr (inl made)
      made_or_not society (Err kind) made un = inr (inr (kind, un))

      begun : (society : List ℕ) (r : Plain) → OnOk r (IsMadeIn image society left)
          → Finishes faulter.contents fails.failed (as_text r) status x.faults y.faults → ended ≡ Some 0
          → ∥ Stands society nothing after ∥₁
      begun society (Ok _) made finishes done = begins society made
      begun society (Err kind) made finishes done =
          absurd (omega (arith, finishes.0, (subst (IsSeenAs status unseen) done as_seen).0))

      -- ---- each command
      pub is_run : (a : Asked) → Does reader reads writer writes faulter fails image status x y left room a
          → IsRun image bytes seen ended after a
      is_run asked.Norm did = ((None, refl, idles [] (inl did.1.0)), tt)
      is_run asked.Check did = ((None, refl, idles [] (inl did.1.0)), tt)
      is_run asked.CheckAll did = ((None, refl, idles [] (inl did.1.0)), tt)
      is_run (asked.Convert from) did = ((None, refl, idles [] (inl did.1.0)), tt)
      is_run (asked.Init file society) did =
          let makes = did.0.1 in
          let finishes =
          subst (λ (o : Outcome). Finishes faulter.contents fails.failed o status x.faults y.faults) makes.1
          did.0.2 in (
            (None, refl, idles society.now (made_or_not society.now makes.0 makes.2 makes.3)),
            λ done. begun society.now makes.0 makes.2 finishes done,
          )
      is_run (asked.Apply file stops answers) did = (rows_run (is_some answers) stops did, tt)
      is_run (asked.Entries file source token) did =
          let t = task.Entries token.now source in ((Some t, refl, under token.now t did), tt)
      is_run (asked.EnterTable file source form token) did =
          let t = entering_task token.now source form in ((Some t, refl, under token.now t did), tt)
      is_run (asked.CheckTable file source form) did =
          let t = table_task source form in ((Some t, refl, performs t did), tt)
      is_run (asked.Import file token progress report) did =
          let t = task.Import token.now progress in
          ((Some t, refl, imported (is_some report) token.now progress did), tt)
      is_run (asked.Export file) did = ((Some task.Export, refl, performs task.Export did), tt)
      is_run (asked.ExportPublic file today) did =
          let t = task.ExportPublic today in ((Some t, refl, performs t did), tt)
      is_run (asked.ExportPlain file) did = ((Some task.ExportPlain, refl, performs task.ExportPlain did), tt)
      is_run (asked.ExportPublicPlain file today) did =
          let t = task.ExportPublicPlain today in ((Some t, refl, performs t did), tt)
      is_run (asked.Sheet file which number generations today) did =
          let t = task.Sheet did.0 today in ((Some t, (did.0, did.1, refl), performs t did.2), tt)
      is_run (asked.Serve file port count today pages) did =
          let t = task.Library today in ((Some t, refl, performed t did.0 did.1), tt)
      is_run (asked.Audit file) did = ((Some task.Audit, refl, performs task.Audit did), tt)
      is_run (asked.Days file first last words) did =
          let t = task.Days first last words in ((Some t, refl, performs t did), tt)
      is_run (asked.List file which source after limit csv) did =
          let t = list_task which source after limit csv in ((Some t, refl, performs t did), tt)
      is_run (asked.Find file words which limit csv) did =
          let t = find_task words which limit csv in ((Some t, refl, performs t did), tt)
      is_run (asked.Show file numbers) did =
          let t = task.Show numbers in ((Some t, refl, performs t did), tt)
      is_run (asked.History file number) did =
          let t = task.History number in ((Some t, refl, performs t did), tt)
      is_run (asked.Review file csv) did =
          let t = review_task csv in ((Some t, refl, performs t did), tt)
      is_run (asked.Completions text) did = ((None, refl, idles [] (inl did.2.0)), tt)
      is_run (asked.Text text) did = ((None, refl, idles [] (inl did.2.0)), tt)
