-- What an import with a report does to the archive in a file, beside its report.
use Rattle.std.proofs.Common.{◌≡◌, ℕ, List, Bool, true, false, inl, inr, refl}
use Rattle.std.specs.declared.io.Read as read
use Rattle.std.specs.declared.io.Write as write
use Rattle.sqlite.specs.Files.{over_files}
use Rattle.sqlite_disk.specs.declared.Disk as disk
use Rattle.sqlite_store.specs.declared.store.FileStore.{FileStore}
use Rattle.sqlite_wal.specs.Recovery.{Image}
use Rattle.archive_files.specs.Opening.{IsTakenUp}
use Rattle.archive_files.specs.declared.left.Left.{Left}
use Rattle.archive_files.specs.declared.left.Left.TheVariants.{Open}
use Rattle.devices.specs.declared.device.Device as device
use Rattle.store.specs.declared.archive.Archive.{Archive}
use Rattle.tasks.specs.Moments.{Streams, at}
use Rattle.tasks.specs.Reporting.{EndsReported, ReportsFirst}
use Rattle.archive_runs.specs.Reporting.{EndsBeside, EndsReportedOnFile}

module _ {D S R W F P : Type 0} {g : disk.Ghosts D} (reader : read.Ghosts R) (reads : device.Ghosts R)
    (writer : write.Ghosts W) (writes : device.Ghosts W) (faulter : write.Ghosts F) (fails : device.Ghosts F)
    (reporter : write.Ghosts P) (reports : device.Ghosts P) (image : Image) (token : List ℕ) (progress : Bool)
    (x y : Streams R W F) (old new : P) (status : ℕ) (left : Left S D g) where
  abbrev Beside : Type 0
  Beside = EndsBeside reader reads writer writes faulter fails image token progress x y status left

  module _ (taken is : Archive (FileStore D g) over_files) (held : IsTakenUp image taken)
      (back : left ≡ Open is.conn) where
    -- the report was written first
    first : ReportsFirst over_files reader reads writer writes faulter fails reporter reports token progress
        (at taken x) old new (at is y) status → Beside
    first f = inl (
      y.faults,
      inr (record { taken = taken; new = is; held = held; ends = f.imports.before held.ready; back = back }),
      inl refl,
    )

    opened : (kept : Bool) → EndsReported over_files reader reads writer writes faulter fails reporter reports token
        progress (at taken x) old new (at is y) status kept → Beside
    opened true f = first f
    opened false (inl none) = inl (
      none.between,
      inr (record { taken = taken; new = is; held = held; ends = none.imports.before held.ready; back = back }),
      inr none.said,
    )
    opened false (inr (inl cut)) = inr (record {
      taken = taken;
      new = is;
      held = held;
      looks = cut.reports.looks;
      back = back;
      unprinted = cut.unprinted;
      kind = cut.kind;
      said = cut.said;
    })
    opened false (inr (inr (inl refused))) = inl (
      y.faults,
      inr (record { taken = taken; new = is; held = held; ends = refused.ends; back = back }),
      inl refl,
    )
    opened false (inr (inr (inr withdrawn))) = first withdrawn.first

  pub beside : (kept : Bool) → EndsReportedOnFile reader reads writer writes faulter fails reporter reports image token
      progress x y old new status kept left → Beside
  beside kept (inl none) = inl (y.faults, inl none.2, inl refl)
  beside kept (inr o) = opened o.taken o.is o.held o.back kept o.ends
