-- How a task ends on the archive in a file, by what the file and its log held as they were opened. Rules of our own.
use Rattle.std.specs.Prelude.{◌≡◌, ◌⊎◌, ℕ, List, Option, None, Err}
use Rattle.std.specs.declared.io.Read as read
use Rattle.std.specs.declared.io.Write as write
use Rattle.sqlite.specs.Files.{over_files}
use Rattle.sqlite.specs.State.{HasCleanDisk, State}
use Rattle.sqlite_disk.specs.declared.Disk as disk
use Rattle.sqlite_store.specs.declared.store.FileStore.{FileStore}
use Rattle.sqlite_wal.specs.Recovery.{Image}
use Rattle.archive_core.specs.Machine.{Done, Runs}
use Rattle.archive_files.specs.Opening.{IsTakenUp, Unopened, WhereHeld}
use Rattle.archive_state.specs.Content.{Content}
use Rattle.archive_files.specs.declared.left.Left.{Left}
use Rattle.archive_files.specs.declared.left.Left.TheVariants.{Open}
use Rattle.devices.specs.declared.device.Device as device
use Rattle.record_text.specs.declared.refusal.RefusalKind.{RefusalKind}
use Rattle.store.specs.Archives.{HasArchive, LeavesArchive}
use Rattle.store.specs.Histories.{MayBeFound, in_doubt}
use Rattle.store.specs.declared.archive.Archive.{Archive}
use Rattle.tasks.specs.Ends.{Ends}
use Rattle.tasks.specs.Moments.{Streams, at}
use Rattle.tasks.specs.Status.{Finishes, placeless_text}
use Rattle.tasks.specs.declared.task.Task.{Task}

-- requests with their outcomes, on the archive that the file held: where none is in doubt it holds what they make of
-- it, and in any case a stop leaves what their history allows
abbrev pub PerformsOn : Image → List Done → State → Type 0
PerformsOn image calls s = HasCleanDisk s → WhereHeld image (λ society c.
    (in_doubt calls ≡ None → (after : Content) × Runs c calls after × HasArchive society after s)
    × LeavesArchive s society (MayBeFound c calls))

module _ {D S R W F : Type 0} {g : disk.Ghosts D} (reader : read.Ghosts R) (reads : device.Ghosts R)
    (writer : write.Ghosts W) (writes : device.Ghosts W) (faulter : write.Ghosts F) (fails : device.Ghosts F) where
  -- no archive was taken up: nothing was read, and nothing written but the line of the refusal
  pub record EndsUnopened (image : Image) (x y : Streams R W F) (status : ℕ) (shown : Option Content)
      (left : Left S D g) : Type 0 where
    pub kind : RefusalKind
    pub unopened : Unopened image kind left
    pub unread : y.input ≡ x.input
    pub unwritten : y.output ≡ x.output
    pub unshown : shown ≡ None
    pub finishes : Finishes faulter.contents fails.failed (Err (placeless_text kind)) status x.faults y.faults

  -- the archive that the file held was taken up, the task was performed on it, and its connection is handed back
  pub record EndsOpened (image : Image) (task : Task) (x y : Streams R W F) (status : ℕ) (shown : Option Content)
      (left : Left S D g) : Type 0 where
    pub taken : Archive (FileStore D g) over_files
    pub new : Archive (FileStore D g) over_files
    pub held : IsTakenUp image taken
    pub ends : Ends over_files reader reads writer writes faulter fails task (at taken x) (at new y) status shown
    pub back : left ≡ Open new.conn

  abbrev pub EndsOnFile : Image → Task → Streams R W F → Streams R W F → ℕ → Option Content → Left S D g → Type 0
  EndsOnFile image task x y status shown left =
      EndsUnopened image x y status shown left ⊎ EndsOpened image task x y status shown left
