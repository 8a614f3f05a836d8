-- How an import whose report is written before it is done ends on the archive in a file. Rules of our own.
use Rattle.std.specs.Prelude.{◌≡◌, ◌⊎◌, ℕ, Bool, false, List, None, Err}
use Rattle.std.specs.declared.io.Read as read
use Rattle.std.specs.declared.io.Write as write
use Rattle.sqlite.specs.Files.{over_files}
use Rattle.sqlite_disk.specs.declared.Disk as disk
use Rattle.sqlite_store.specs.declared.store.FileStore.{FileStore}
use Rattle.sqlite_wal.specs.Recovery.{Image}
use Rattle.archive_files.specs.Opening.{IsTakenUp}
use Rattle.archive_files.specs.declared.left.Left.{Left}
use Rattle.archive_files.specs.declared.left.Left.TheVariants.{Open}
use Rattle.archive_output.specs.Reading.{OnlyReads}
use Rattle.devices.specs.declared.device.Device as device
use Rattle.record_text.specs.declared.refusal.RefusalKind.{RefusalKind}
use Rattle.store.specs.declared.archive.Archive.{Archive}
use Rattle.tasks.specs.Moments.{Streams, at}
use Rattle.tasks.specs.Reporting.{EndsReported, SaysDoneBefore}
use Rattle.tasks.specs.Status.{Finishes, placeless_text}
use Rattle.tasks.specs.declared.task.Task.TheVariants as task
use Rattle.archive_runs.specs.Tasks.{EndsOnFile, EndsUnopened}

module _ {D S R W F : Type 0} {g : disk.Ghosts D} (reader : read.Ghosts R) (reads : device.Ghosts R)
    (writer : write.Ghosts W) (writes : device.Ghosts W) (faulter : write.Ghosts F) (fails : device.Ghosts F) where
  -- the archive that the file held was taken up, and only read, and why nothing is imported was said
  pub record IsOnlyRead (image : Image) (x y : Streams R W F) (status : ℕ) (left : Left S D g) : Type 0 where
    pub taken : Archive (FileStore D g) over_files
    pub new : Archive (FileStore D g) over_files
    pub held : IsTakenUp image taken
    pub looks : OnlyReads over_files taken new
    pub back : left ≡ Open new.conn
    pub unprinted : y.output ≡ x.output
    pub kind : RefusalKind
    pub said : Finishes faulter.contents fails.failed (Err (placeless_text kind)) status x.faults y.faults

  -- the import was done as one without a report, and then it may be said that it was done before; or the archive is
  -- only read
  abbrev pub EndsBeside : Image → List ℕ → Bool → Streams R W F → Streams R W F → ℕ → Left S D g → Type 0
  EndsBeside image token progress x y status left = ((between : F)
      × EndsOnFile reader reads writer writes faulter fails image (task.Import token progress) x
      (record { input = y.input; output = y.output; faults = between }) status None left
      × ((y.faults ≡ between) ⊎ SaysDoneBefore faulter.contents fails.failed status between y.faults))
      ⊎ IsOnlyRead image x y status left

  module _ {P : Type 0} (reporter : write.Ghosts P) (reports : device.Ghosts P) where
    -- the archive that the file held was taken up, the report was written and the import done on it, as told of an
    -- archive that is open, and its connection is handed back
    pub record EndsOpenedReported (image : Image) (token : List ℕ) (progress : Bool) (x y : Streams R W F)
        (old new : P) (status : ℕ) (kept : Bool) (left : Left S D g) : Type 0 where
      pub taken : Archive (FileStore D g) over_files
      pub is : Archive (FileStore D g) over_files
      pub held : IsTakenUp image taken
      pub ends : EndsReported over_files reader reads writer writes faulter fails reporter reports token progress
          (at taken x) old new (at is y) status kept
      pub back : left ≡ Open is.conn

    -- so it ended; or no archive was taken up, and no report is to be kept
    abbrev pub EndsReportedOnFile : Image → List ℕ → Bool → Streams R W F → Streams R W F → P → P → ℕ → Bool
        → Left S D g → Type 0
    EndsReportedOnFile image token progress x y old new status kept left =
        ((kept ≡ false) × (new ≡ old)
        × EndsUnopened reader reads writer writes faulter fails image x y status None left)
        ⊎ EndsOpenedReported image token progress x y old new status kept left
