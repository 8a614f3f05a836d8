-- What is said of an archive that is open, before and after a call that only reads it. Rules of our own.
use Rattle.std.specs.Prelude.{◌≡◌, false, ℕ, List, []}
use Rattle.sqlite.specs.Held.{state}
use Rattle.sqlite.specs.State.{State, HasCleanDisk}
use Rattle.sqlite_trees.specs.declared.store.Store.{Ghosts}
use Rattle.archive_core.specs.declared.request.Request.{Request}
use Rattle.archive_state.specs.Content.{Content}
use Rattle.store.specs.Archives.{HasArchive, LeavesArchive}
use Rattle.store.specs.Calls.{Stays}
use Rattle.store.specs.Lives.{IsCall}
use Rattle.store.specs.Looking.{StaysReadable}
use Rattle.store.specs.Standing.{standing}
use Rattle.store.specs.declared.archive.Archive.{Archive}

-- P of its society and of what it holds, and a crash leaves it
abbrev pub OnOpen : State → State → (List ℕ → Content → Type 0) → Type 0
OnOpen old new P = HasCleanDisk new → HasCleanDisk old
    × ((society : List ℕ) (c : Content) → HasArchive society c old
    → P society c × LeavesArchive new society (λ found. found ≡ c))

module _ {S : Type 0} (g : Ghosts S) (old new : Archive S g) where
  -- to the sessions of an archive the call does no request
  abbrev pub DoesNoRequest : Type 0
  DoesNoRequest = (r : Request) → IsCall g old.conn (standing r old.is_lost old.import) [] new.conn
      (standing r new.is_lost new.import)

  -- an archive is only read: it does no request, and the import that is open stays; while the archive is not lost the
  -- connection has it as it was; and so do tables that can be read, and in which each record has its links and the row
  -- of what it is looked for by, stay, sound or not
  pub record OnlyReads : Type 0 where
    pub called : DoesNoRequest
    pub import : new.import ≡ old.import
    pub still : new.is_lost ≡ false → OnOpen (state g old.conn) (state g new.conn)
        (λ society c. HasArchive society c (state g new.conn))
    pub stays : HasCleanDisk (state g new.conn) → StaysReadable (state g old.conn) new.is_lost (state g new.conn)

  -- the same, and any tables stay, whether they can be read or not
  pub record OnlyReadsAny : Type 0 where
    pub reads : OnlyReads
    pub stays : HasCleanDisk (state g new.conn) → Stays (state g old.conn) new.is_lost (state g new.conn)
