-- What is left of two files that were opened, or were not. Rules of our own.
use Rattle.std.specs.Prelude.{◌≡◌, ⊤}
use Rattle.sqlite.specs.Files.{IsCleanLeft, IsOpened, LeavesFiles, file_state, image_of}
use Rattle.sqlite.specs.Held.{Held}
use Rattle.sqlite.specs.Start.{FindsIn}
use Rattle.sqlite.specs.State.{HasCleanDisk}
use Rattle.sqlite.specs.declared.file.Leftover.{Leftover}
use Rattle.sqlite_disk.specs.declared.Disk as disk
use Rattle.sqlite_disk.specs.declared.Files.{Files}
use Rattle.sqlite_store.specs.declared.store.FileStore.{FileStore}
use Rattle.sqlite_wal.specs.Files.{outcomes}
use Rattle.sqlite_wal.specs.Recovery.{Image}
use Rattle.archive_files.specs.declared.left.Left.{Left}
use Rattle.archive_files.specs.declared.left.Left.TheVariants.{Untouched, Unopened, Open}

-- two files as they were found: they read as this, and a crash leaves just this
pub record AreAsFound {D : Type 0} (g : disk.Ghosts D) (image : Image) (files : Files D) : Type 0 where
  pub seen : image_of g files ≡ image
  pub kept : (after : Image) → outcomes g files.log files.db after → after ≡ image

module _ {D : Type 0} {g : disk.Ghosts D} where
  -- files that held this could not be opened, and that is left of them. While the disk returned what was written, a
  -- crash leaves them as they were, or as what stands for the same database; where there was none, there is none yet,
  -- or an empty one
  abbrev pub IsUnopenedOver : Image → Leftover D g → Type 0
  IsUnopenedOver image left = (files : Files D) × AreAsFound g image files × (IsCleanLeft left → LeavesFiles files left)

  -- files that held this are open, and show it
  abbrev pub IsOpenOver : Image → Held (FileStore D g) → Type 0
  IsOpenOver image conn = HasCleanDisk (file_state conn) → IsOpened conn × FindsIn image (file_state conn)

  -- files that held this are not open: nothing opened them, or that is left of an opening that failed
  abbrev pub IsNotOpenOver : {S : Type 0} → Image → Left S D g → Type 0
  IsNotOpenOver image (Untouched start) = ⊤
  IsNotOpenOver image (Unopened rest) = IsUnopenedOver image rest
  IsNotOpenOver image (Open conn) = ⊥

  -- the same, or they are open
  abbrev pub IsLeftOver : {S : Type 0} → Image → Left S D g → Type 0
  IsLeftOver image (Unopened rest) = IsUnopenedOver image rest
  IsLeftOver image _ = ⊤

  -- nothing opened them
  abbrev pub IsUntouched : {S : Type 0} → Left S D g → Type 0
  IsUntouched (Untouched start) = ⊤
  IsUntouched _ = ⊥
