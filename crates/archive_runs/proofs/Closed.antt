-- What is found after a close, or after a connection was given up as it stood.
use Rattle.std.proofs.Common.{subst}
use Rattle.sqlite_disk.specs.declared.Disk as disk
use Rattle.sqlite_wal.specs.Recovery.{Image}
use Rattle.archive_files.specs.Closing.{IsClosing, IsStopping}
use Rattle.archive_files.specs.Leaving.{IsNumbered, IsToldOf, MayBeLeft}
use Rattle.archive_files.specs.declared.left.Closed.{Closed}
use Rattle.archive_files.specs.declared.left.Closed.TheVariants as closed
use Rattle.archive_files.specs.declared.left.Left.{Left}
use Rattle.archive_files.specs.declared.left.Left.TheVariants.{Untouched, Unopened, Open}
use Rattle.archive_runs.specs.Leaving.{FindsOpen, IsAsTold}

module _ {D S : Type 0} {g : disk.Ghosts D} where
  -- what holds of what is left holds of it after the close
  pub told_closed : (before : Image) (left : Left S D g) (end : Closed S D g) → IsClosing left end
      → IsAsTold before end → IsToldOf before left
  told_closed before (Untouched start) end same told = tt
  told_closed before (Unopened rest) end same told = subst (IsAsTold before) same told
  told_closed before (Open conn) end same told = tt

  -- and after a stop
  pub told_stopped : (before : Image) (left : Left S D g) (end : Closed S D g) → IsStopping left end
      → IsAsTold before end → IsToldOf before left
  told_stopped before (Untouched start) end same told = tt
  told_stopped before (Unopened rest) end same told = subst (IsAsTold before) same told
  told_stopped before (Open conn) end same told = tt

  -- a connection that is closed, and what is found then
  pub opened_closed : (before after : Image) (left : Left S D g) (end : Closed S D g) → IsClosing left end
      → IsNumbered end → MayBeLeft before end after → FindsOpen left after
  opened_closed before after (Untouched start) end is numbered may = tt
  opened_closed before after (Unopened rest) end is numbered may = tt
  opened_closed before after (Open conn) (closed.Copied files) is numbered may =
      let again = is.again may.0 in (again.clean, again.found after may.1)
  opened_closed before after (Open conn) (closed.Uncopied last) is numbered may =
      let again = is.again may.0 numbered in (again.clean, again.found after may.1)
  opened_closed before after (Open conn) (closed.Untouched start) is numbered may = absurd is
  opened_closed before after (Open conn) (closed.Unopened rest) is numbered may = absurd is

  -- and that is stopped
  pub opened_stopped : (before after : Image) (left : Left S D g) (end : Closed S D g) → IsStopping left end
      → MayBeLeft before end after → FindsOpen left after
  opened_stopped before after (Untouched start) end is may = tt
  opened_stopped before after (Unopened rest) end is may = tt
  opened_stopped before after (Open conn) (closed.Uncopied last) is may =
      let again = is may.0 in (again.clean, again.found after may.1)
  opened_stopped before after (Open conn) (closed.Copied files) is may = absurd is
  opened_stopped before after (Open conn) (closed.Untouched start) is may = absurd is
  opened_stopped before after (Open conn) (closed.Unopened rest) is may = absurd is
