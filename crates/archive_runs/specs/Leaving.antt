-- What is found of a file and the log beside it after a run. Rules of our own.
use Rattle.std.specs.Prelude.{⊤}
use Rattle.sqlite.specs.Files.{HoldsDatabase, file_state}
use Rattle.sqlite.specs.State.{HasCleanDisk}
use Rattle.sqlite.specs.Tree.{Trees}
use Rattle.sqlite_disk.specs.declared.Disk as disk
use Rattle.sqlite_wal.specs.Recovery.{Image}
use Rattle.archive_files.specs.Leaving.{IsFoundOf, IsTold}
use Rattle.archive_files.specs.DatabaseOpening.{IsLeftOver}
use Rattle.archive_files.specs.declared.left.Closed.{Closed}
use Rattle.archive_files.specs.declared.left.Closed.TheVariants as closed
use Rattle.archive_files.specs.declared.left.Left.{Left}
use Rattle.archive_files.specs.declared.left.Left.TheVariants as left

module _ {D S : Type 0} {g : disk.Ghosts D} where
  -- what the kit does not say of an opening that failed, of what is left after a close or a stop
  abbrev pub IsAsTold : Image → Closed S D g → Type 0
  IsAsTold before (closed.Unopened rest) = IsTold before rest
  IsAsTold before _ = ⊤

  -- each database that the two held before is found in them
  abbrev pub FindsHeld : Image → Left S D g → Image → Type 0
  FindsHeld before left after = IsLeftOver before left → (t : Trees) → HoldsDatabase before t → IsFoundOf t left after

  -- where they are open, a database that a crash might have left of the connection is found, whatever they held before
  abbrev pub FindsOpen : Left S D g → Image → Type 0
  FindsOpen (left.Open conn) after = HasCleanDisk (file_state conn)
      × ∥ ((found : Trees) × (file_state conn).may_leave found × HoldsDatabase after found) ∥₁
  FindsOpen _ after = ⊤

  abbrev pub FindsAfter : Image → Left S D g → Image → Type 0
  FindsAfter before left after = FindsHeld before left after × FindsOpen left after
