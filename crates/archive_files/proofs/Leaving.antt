-- What is found of a database after its files were closed, or given up.
use Rattle.std.proofs.Common.{◌≡◌, subst, sym}
use Rattle.sqlite.specs.Files.{HoldsDatabase}
use Rattle.sqlite.specs.Held.{Held}
use Rattle.sqlite.specs.Tree.{Trees}
use Rattle.sqlite.specs.declared.file.Leftover.{Leftover}
use Rattle.sqlite_disk.specs.declared.Disk as disk
use Rattle.sqlite_store.specs.declared.store.FileStore.{FileStore}
use Rattle.sqlite_wal.specs.Recovery.{Image}
use Rattle.archive_files.specs.Closing.{IsClosing, IsStoppedOver, IsStopping}
use Rattle.archive_files.specs.Leaving.{IsFoundOf, IsNumbered, IsTold, IsToldOf, MayBeLeft}
use Rattle.archive_files.specs.DatabaseOpening.{IsLeftOver, IsUnopenedOver}
use Rattle.archive_files.specs.declared.left.Closed.{Closed}
use Rattle.archive_files.specs.declared.left.Closed.TheVariants as closed
use Rattle.archive_files.specs.declared.left.Left.{Left}
use Rattle.archive_files.specs.declared.left.Left.TheVariants as left
use Rattle.archive_files.proofs.Failed.{stays_held}

pub stopped : {S D : Type 0} {g : disk.Ghosts D} (rest : Left S D g) (conn : Held (FileStore D g))
    (last : FileStore D g) → rest ≡ left.Open conn → IsStoppedOver conn last → IsStopping rest (closed.Uncopied last)
stopped {S} {D} {g} rest conn last is over =
    subst (λ (l : Left S D g). IsStopping l (closed.Uncopied last)) (sym is) over

module _ {S D : Type 0} {g : disk.Ghosts D} (image after : Image) (t : Trees) (held : HoldsDatabase image t) where
  -- what was not open is left as it was
  untouched : (start : S) (now : Closed S D g) → now ≡ closed.Untouched start → MayBeLeft image now after
      → ∥ HoldsDatabase after t ∥₁
  untouched start now same may =
      let as_it_was : after ≡ image = subst (λ (c : Closed S D g). MayBeLeft image c after) same may in
      ∣ subst (λ i. HoldsDatabase i t) (sym as_it_was) held ∣₁

  unopened : (rest : Leftover D g) (now : Closed S D g) → IsUnopenedOver image rest → IsTold image rest
      → now ≡ closed.Unopened rest → MayBeLeft image now after → ∥ HoldsDatabase after t ∥₁
  unopened rest now over told same may =
      stays_held image after rest t over told held (subst (λ (c : Closed S D g). MayBeLeft image c after) same may)

  pub left_by_close : (rest : Left S D g) (now : Closed S D g) → IsLeftOver image rest → IsToldOf image rest
      → IsClosing rest now → IsNumbered now → MayBeLeft image now after → IsFoundOf t rest after
  left_by_close (left.Untouched start) now over told did numbered may = untouched start now did may
  left_by_close (left.Unopened rest) now over told did numbered may = unopened rest now over told did may
  left_by_close (left.Open conn) (closed.Copied files) over told did numbered may =
      let again = did.again may.0 in
      (again.clean, again.found after may.1)
  left_by_close (left.Open conn) (closed.Uncopied last) over told did numbered may =
      let again = did.again may.0 numbered in
      (again.clean, again.found after may.1)
  left_by_close (left.Open conn) (closed.Untouched start) over told did numbered may = absurd did
  left_by_close (left.Open conn) (closed.Unopened rest) over told did numbered may = absurd did

  pub left_by_stop : (rest : Left S D g) (now : Closed S D g) → IsLeftOver image rest → IsToldOf image rest
      → IsStopping rest now → MayBeLeft image now after → IsFoundOf t rest after
  left_by_stop (left.Untouched start) now over told did may = untouched start now did may
  left_by_stop (left.Unopened rest) now over told did may = unopened rest now over told did may
  left_by_stop (left.Open conn) (closed.Uncopied last) over told did may =
      let again = did may.0 in
      (again.clean, again.found after may.1)
  left_by_stop (left.Open conn) (closed.Copied files) over told did may = absurd did
  left_by_stop (left.Open conn) (closed.Untouched start) over told did may = absurd did
  left_by_stop (left.Open conn) (closed.Unopened rest) over told did may = absurd did
