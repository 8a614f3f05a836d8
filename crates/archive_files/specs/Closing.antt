-- What a close leaves of a file and the log beside it. Rules of our own.
use Rattle.std.specs.Prelude.{◌≡◌, Bool, IsTrue, false, nat_lt}
use Rattle.sqlite.specs.Closing.{IsCopied}
use Rattle.sqlite.specs.Files.{HoldsDatabase, IsClosed, file_state}
use Rattle.sqlite.specs.Held.{Held}
use Rattle.sqlite.specs.State.{HasCleanDisk}
use Rattle.sqlite.specs.Tree.{Trees}
use Rattle.sqlite_disk.specs.declared.Disk as disk
use Rattle.sqlite_disk.specs.declared.Files.{Files}
use Rattle.sqlite_store.specs.declared.store.FileStore.{FileStore}
use Rattle.sqlite_store.specs.FileStore.{files as files_of, state, view}
use Rattle.sqlite_trees.specs.View.{IsClean}
use Rattle.sqlite_wal.specs.Files.{outcomes}
use Rattle.sqlite_wal.specs.Reads.{AreClean, tally_of_files}
use Rattle.sqlite_wal.specs.Recovery.{Image}
use Rattle.archive_files.specs.declared.left.Closed.{Closed}
use Rattle.archive_files.specs.declared.left.Closed.TheVariants as closed
use Rattle.archive_files.specs.declared.left.Left.{Left}
use Rattle.archive_files.specs.declared.left.Left.TheVariants.{Untouched, Unopened, Open}

module _ {D : Type 0} {g : disk.Ghosts D} where
  -- the connection was clean, and what may be there then is a database that a crash might have left of it
  pub record IsFoundAgain (conn : Held (FileStore D g)) (May : Image → Type 0) : Type 0 where
    pub clean : HasCleanDisk (file_state conn)
    pub found : (after : Image) → May after
        → ∥ ((t : Trees) × (file_state conn).may_leave t × HoldsDatabase after t) ∥₁

  -- the log was copied: what was committed last is only in the database file, as it reads now and after a crash
  pub record IsCopiedOver (conn : Held (FileStore D g)) (files : Files D) : Type 0 where
    pub closed : (last : FileStore D g) × (files_of last ≡ (files.log, files.db)) × IsClosed conn last
    pub copied : AreClean g files.log files.db → IsCopied conn files
    pub again : AreClean g files.log files.db → IsFoundAgain conn (outcomes g files.log files.db)

  -- it was not, and may have what was committed. That rows are numbered yet the kit does not say
  pub record IsUncopiedOver (conn : Held (FileStore D g)) (last : FileStore D g) : Type 0 where
    pub closed : IsClosed conn last
    pub again : IsClean (view last) → IsTrue (view last).is_numbered → IsFoundAgain conn (state last).may_leave

  -- given up as it stands
  abbrev pub IsStoppedOver : Held (FileStore D g) → FileStore D g → Type 0
  IsStoppedOver conn last = IsClean (view last) → IsFoundAgain conn (state last).may_leave

  module _ {S : Type 0} where
    abbrev pub IsClosedOver : Held (FileStore D g) → Closed S D g → Type 0
    IsClosedOver conn (closed.Copied files) = IsCopiedOver conn files
    IsClosedOver conn (closed.Uncopied last) = IsUncopiedOver conn last
    IsClosedOver conn _ = ⊥

    -- what a close leaves
    abbrev pub IsClosing : Left S D g → Closed S D g → Type 0
    IsClosing (Untouched start) after = after ≡ closed.Untouched start
    IsClosing (Unopened rest) after = after ≡ closed.Unopened rest
    IsClosing (Open conn) after = IsClosedOver conn after

    -- what a stop leaves
    abbrev pub IsStopping : Left S D g → Closed S D g → Type 0
    IsStopping (Untouched start) after = after ≡ closed.Untouched start
    IsStopping (Unopened rest) after = after ≡ closed.Unopened rest
    IsStopping (Open conn) (closed.Uncopied last) = IsStoppedOver conn last
    IsStopping (Open conn) _ = ⊥

    -- a write to the file or to its log has found no room on the disk, as their counts say
    abbrev pub found_no_room : Closed S D g → Bool
    found_no_room (closed.Copied files) = nat_lt 0 (tally_of_files g (files.log, files.db)).refused
    found_no_room (closed.Uncopied last) = nat_lt 0 (tally_of_files g (files_of last)).refused
    found_no_room _ = false
