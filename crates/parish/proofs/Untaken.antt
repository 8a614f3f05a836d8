-- Words that are not taken ask for no work: nothing is read, and nothing opened, and a text is printed.
use Rattle.std.proofs.Common.{◌≡◌, ℕ, List, inl, refl}
use Rattle.std.specs.Prelude.{Option, None, Some, IfSome, string_bytes}
use Rattle.std.specs.declared.io.Read as read
use Rattle.std.specs.declared.io.Write as write
use Rattle.sqlite_disk.specs.declared.Disk as disk
use Rattle.sqlite_wal.specs.Recovery.{Image}
use Rattle.command_line.specs.Asking.{AsksForHelp, IsTaken, command_named, name_of}
use Rattle.command_line.specs.declared.tasks.Asked.{Asked}
use Rattle.command_line.specs.declared.tasks.Asked.TheVariants as asked
use Rattle.archive_files.specs.declared.left.Left.{Left}
use Rattle.devices.specs.declared.device.Device as device
use Rattle.parish.specs.Doing.{Does, RefusesWords}
use Rattle.parish.specs.declared.visits.Visits.{Visits}
use Rattle.tasks.specs.Moments.{Streams}

module _ {R W F D S : Type 0} {g : disk.Ghosts D} (reader : read.Ghosts R) (reads : device.Ghosts R)
    (writer : write.Ghosts W) (writes : device.Ghosts W) (faulter : write.Ghosts F) (fails : device.Ghosts F)
    (image : Image) (status : ℕ)
    (x y : Streams R W F) (left : Left S D g) (room : Option Visits) (words : List (List ℕ))
    (none : ¬ (IsTaken words)) where
  pub untaken : (a : Asked) → IfSome (name_of a) (λ n. IsTaken words × (command_named words ≡ Some n))
      → Does reader reads writer writes faulter fails image status x y left room a → (name_of a ≡ None
      → AsksForHelp words)
      → RefusesWords reader reads writer writes faulter fails image status x y left room words
  untaken asked.Norm is did help = absurd (none is.0)
  untaken asked.Check is did help = absurd (none is.0)
  untaken asked.CheckAll is did help = absurd (none is.0)
  untaken (asked.Convert from) is did help = absurd (none is.0)
  untaken (asked.Init file society) is did help = absurd (none is.0)
  untaken (asked.Apply file stops answers) is did help = absurd (none is.0)
  untaken (asked.Entries file source token) is did help = absurd (none is.0)
  untaken (asked.EnterTable file source form token) is did help = absurd (none is.0)
  untaken (asked.CheckTable file source form) is did help = absurd (none is.0)
  untaken (asked.Import file token progress report) is did help = absurd (none is.0)
  untaken (asked.Export file) is did help = absurd (none is.0)
  untaken (asked.ExportPublic file today) is did help = absurd (none is.0)
  untaken (asked.ExportPlain file) is did help = absurd (none is.0)
  untaken (asked.ExportPublicPlain file today) is did help = absurd (none is.0)
  untaken (asked.Sheet file which number generations today) is did help = absurd (none is.0)
  untaken (asked.Serve file port count today pages) is did help = absurd (none is.0)
  untaken (asked.Audit file) is did help = absurd (none is.0)
  untaken (asked.Days file first last told_words) is did help = absurd (none is.0)
  untaken (asked.List file which source after limit csv) is did help = absurd (none is.0)
  untaken (asked.Find file names which limit csv) is did help = absurd (none is.0)
  untaken (asked.Show file numbers) is did help = absurd (none is.0)
  untaken (asked.History file number) is did help = absurd (none is.0)
  untaken (asked.Review file csv) is did help = absurd (none is.0)
  untaken (asked.Completions text) is did help = absurd (none is.0)
  untaken (asked.Text text) is did help = (did.1, did.2, inl (help refl, (string_bytes text, did.0)))
