-- What a store that was given up may leave.
use Rattle.std.proofs.Common.{IsTrue}
use Rattle.std.proofs.Math.Logic.{∥∥₁_map}
use Rattle.sqlite.specs.Files.{HoldsDatabase, file_state}
use Rattle.sqlite.specs.Held.{AreDatabases, Held}
use Rattle.sqlite.specs.Tree.{Trees}
use Rattle.sqlite.proofs.Theorems.{opens_again}
use Rattle.sqlite_disk.specs.declared.Disk as disk
use Rattle.sqlite_store.specs.declared.store.FileStore.{FileStore}
use Rattle.sqlite_store.specs.FileStore.{recovers, state, view}
use Rattle.sqlite_wal.specs.Recovery.{Image}

-- a store that is numbered, has only databases to leave, and none that the connection might not have left
pub found_again : {D : Type 0} {g : disk.Ghosts D} (conn : Held (FileStore D g)) (last : FileStore D g)
    → IsTrue (view last).is_numbered → AreDatabases (recovers last)
    → ((t : Trees) → recovers last t → (file_state conn).may_leave t) → (after : Image) → (state last).may_leave after
    → ∥ ((t : Trees) × (file_state conn).may_leave t × HoldsDatabase after t) ∥₁
found_again conn last numbered sound fewer after may =
    ∥∥₁_map (opens_again last numbered sound after may) (λ f.
    let r : (t : Trees) × (file_state conn).may_leave t × HoldsDatabase after t = (f.0, fewer f.0 f.1, f.2) in r)
