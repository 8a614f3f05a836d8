-- An import that writes a report first. Rules of our own.
use Rattle.std.specs.Prelude.{◌≡◌, ◌⊎◌, ◌++◌, ◌∷◌, [], ℕ, Bool, List, Option, None, codes}
use Rattle.std.specs.declared.io.Read as read
use Rattle.std.specs.declared.io.Write as write
use Rattle.sqlite_disk.specs.declared.Disk as disk
use Rattle.sqlite_wal.specs.Recovery.{Image}
use Rattle.archive_files.specs.DatabaseOpening.{IsUntouched}
use Rattle.archive_files.specs.declared.left.Left.{Left}
use Rattle.archive_runs.specs.Reporting.{EndsBeside}
use Rattle.devices.specs.declared.device.Device as device
use Rattle.parish.specs.declared.visits.Visits.{Visits}
use Rattle.record_text.specs.declared.refusal.RefusalKind.TheVariants.{Storage}
use Rattle.tasks.specs.Moments.{Streams}
use Rattle.tasks.specs.Status.{IsRefused, placeless_text}

-- what is said of a file that is there, and of one that cannot be made
abbrev pub there_hint : List ℕ
there_hint = codes "  the file of the report is there already: name another" ++ 10 ∷ []

abbrev pub unmade_hint : List ℕ
unmade_hint = codes "  the file of the report cannot be made" ++ 10 ∷ []

module _ {F : Type 0} (said : F → Option (List ℕ)) (failed : F → ℕ) where
  -- the file of the report was not made: 80, and why
  abbrev pub IsUnmade : ℕ → F → F → Type 0
  IsUnmade status before after = (status ≡ 1)
      × (IsRefused said failed (placeless_text Storage) there_hint before after
      ⊎ IsRefused said failed (placeless_text Storage) unmade_hint before after)

module _ {D S R W F : Type 0} {g : disk.Ghosts D} (reader : read.Ghosts R) (reads : device.Ghosts R)
    (writer : write.Ghosts W) (writes : device.Ghosts W) (faulter : write.Ghosts F) (fails : device.Ghosts F)
    (image : Image) (status : ℕ)
    (x y : Streams R W F) (left : Left S D g) (room : Option Visits) where
  -- the file of the report was not made, and nothing is opened, read or written
  abbrev pub CannotReport : Type 0
  CannotReport = IsUnmade faulter.contents fails.failed status x.faults y.faults × (y.input ≡ x.input)
      × (y.output ≡ x.output) × IsUntouched left × (room ≡ None)

  -- or it was, and the import done as one without a report, but for what is said of a missing one; or the archive is
  -- only read
  abbrev pub ImportsReported : List ℕ → Bool → Type 0
  ImportsReported token progress = CannotReport
      ⊎ (EndsBeside reader reads writer writes faulter fails image token progress x y status left × (room ≡ None))
