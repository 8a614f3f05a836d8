-- What a crash may leave of two files, while the disk returned what was written. Rules of our own.
use Rattle.std.specs.Prelude.{◌≡◌, ⊤, IsTrue}
use Rattle.sqlite.specs.Files.{HoldsDatabase, IsCleanLeft, file_state}
use Rattle.sqlite.specs.State.{HasCleanDisk}
use Rattle.sqlite.specs.Tree.{Trees}
use Rattle.sqlite.specs.declared.file.Leftover.{Leftover}
use Rattle.sqlite.specs.declared.file.Leftover.TheVariants as kit
use Rattle.sqlite_disk.specs.declared.Disk as disk
use Rattle.sqlite_pool.specs.Stored.{is_summed}
use Rattle.sqlite_store.specs.FileStore.{state, view}
use Rattle.sqlite_store.specs.Unopened.{state_of}
use Rattle.sqlite_trees.specs.View.{IsClean}
use Rattle.sqlite_wal.specs.Files.{outcomes}
use Rattle.sqlite_wal.specs.Reads.{AreClean}
use Rattle.sqlite_wal.specs.Recovery.{Image}
use Rattle.archive_files.specs.declared.left.Closed.{Closed}
use Rattle.archive_files.specs.declared.left.Closed.TheVariants.{Untouched, Unopened, Copied, Uncopied}
use Rattle.archive_files.specs.declared.left.Left.{Left}
use Rattle.archive_files.specs.declared.left.Left.TheVariants as left

module _ {D : Type 0} {g : disk.Ghosts D} where
  -- after an opening that failed
  abbrev pub may_be : Leftover D g → Image → Type 0
  may_be (kit.Files now) = outcomes g now.log now.db
  may_be (kit.Unopened now) = (state_of now).may_leave
  may_be (kit.Store now) = (state now).may_leave

  abbrev pub MayBeOf : Leftover D g → Image → Type 0
  MayBeOf rest after = IsCleanLeft rest × may_be rest after

  -- after a close, or a stop, of files that held this
  abbrev pub MayBeLeft : {S : Type 0} → Image → Closed S D g → Image → Type 0
  MayBeLeft before (Untouched start) after = after ≡ before
  MayBeLeft before (Unopened rest) after = MayBeOf rest after
  MayBeLeft before (Copied files) after = AreClean g files.log files.db × outcomes g files.log files.db after
  MayBeLeft before (Uncopied store) after = IsClean (view store) × (state store).may_leave after

  -- What the kit does not say of an opening that failed: that one of a database whose pages end in sums reads them so,
  -- and that a store whose tables could not be read has its rows numbered
  abbrev pub IsTold : Image → Leftover D g → Type 0
  IsTold image (kit.Files now) = ⊤
  IsTold image (kit.Unopened now) = (t : Trees) (held : HoldsDatabase image t) → IsTrue (is_summed held.0)
      → IsTrue (is_summed (state_of now).page_size)
  IsTold image (kit.Store now) = IsTrue (view now).is_numbered

  abbrev pub IsToldOf : {S : Type 0} → Image → Left S D g → Type 0
  IsToldOf image (left.Unopened rest) = IsTold image rest
  IsToldOf image _ = ⊤

  -- nor of a close that failed: that the rows of the store are numbered yet
  abbrev pub IsNumbered : {S : Type 0} → Closed S D g → Type 0
  IsNumbered (Uncopied store) = IsTrue (view store).is_numbered
  IsNumbered _ = ⊤

  -- what is found then of a database that the files held: of files that were not open it is that one; of a connection,
  -- a database that a crash might have left of it
  abbrev pub IsFoundOf : {S : Type 0} → Trees → Left S D g → Image → Type 0
  IsFoundOf t (left.Open conn) after = HasCleanDisk (file_state conn)
      × ∥ ((found : Trees) × (file_state conn).may_leave found × HoldsDatabase after found) ∥₁
  IsFoundOf t _ after = ∥ HoldsDatabase after t ∥₁
