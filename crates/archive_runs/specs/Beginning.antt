-- Runs that have no task on an archive, and the first run, which makes one. Rules of our own.
use Rattle.std.specs.Prelude.{◌⊎◌, ℕ, List, Option, None}
use Rattle.sqlite_disk.specs.declared.Disk as disk
use Rattle.sqlite_wal.specs.Recovery.{Image}
use Rattle.archive_files.specs.Made.{IsMadeIn, Unmade}
use Rattle.archive_files.specs.DatabaseOpening.{IsUntouched}
use Rattle.archive_files.specs.declared.left.Left.{Left}
use Rattle.record_text.specs.declared.refusal.RefusalKind.{RefusalKind}
use Rattle.archive_runs.specs.Runs.{Run}

-- a run without a task on an archive
abbrev pub idle : List ℕ → List ℕ → Option ℕ → Run
idle input written ended = record { task = None; input = input; written = written; status = ended }

module _ {D S : Type 0} {g : disk.Ghosts D} where
  -- nothing opened the two; or an archive of a society was to be made in them, and was made, or was not
  abbrev pub HasNoTask : Image → List ℕ → Left S D g → Type 0
  HasNoTask image society left = IsUntouched left
      ⊎ (IsMadeIn image society left ⊎ ((kind : RefusalKind) × Unmade image society kind left))
