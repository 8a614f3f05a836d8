-- Which sheet is asked for, and how `serve` ends once the file is closed.
use Rattle.std.specs.Prelude.{◌≡◌, ◌≤◌, ℕ, List, Option, None, Some}
use Rattle.std.specs.Io.KnownBytes.{Appends}
use Rattle.archive_state.specs.Content.{Content}
use Rattle.command_line.specs.declared.tasks.RoomPages.{RoomPages}
use Rattle.command_line.specs.declared.tasks.SheetKind.{SheetKind}
use Rattle.command_line.specs.declared.tasks.SheetKind.TheVariants as kind
use Rattle.devices.specs.Devices.{AppendsBeginning}
use Rattle.parish.specs.declared.visits.Visits.{Visits}
use Rattle.reading_room.specs.Listening.{listening_line}
use Rattle.record_text.specs.declared.refusal.RefusalKind.{RefusalKind}
use Rattle.record_text.specs.declared.refusal.RefusalKind.TheVariants.{WriteFailed}
use Rattle.archive_output.specs.declared.sheet.Sheet.{Sheet}
use Rattle.archive_output.specs.declared.sheet.Sheet.TheVariants as sheet

-- the sheet of a kind, of that number; a pedigree has so many generations
abbrev pub IsSheetOf : SheetKind → ℕ → ℕ → Sheet → Type 0
IsSheetOf kind.Person number generations (sheet.Person n) = n ≡ number
IsSheetOf kind.Family number generations (sheet.Family n) = n ≡ number
IsSheetOf kind.Register number generations (sheet.Register n) = n ≡ number
IsSheetOf kind.Pedigree number generations (sheet.Pedigree n few) = (n ≡ number) × (few.count ≡ generations)
IsSheetOf _ number generations _ = ⊥

-- a room with what is shown in pages of that kind, for so many visitors at that port; none where nothing is shown
abbrev pub IsRoomOf : ℕ → ℕ → RoomPages → Option Content → Option Visits → Type 0
IsRoomOf port count pages None None = Unit {0}
IsRoomOf port count pages (Some shown) (Some visits) = (visits.port ≡ port) × (visits.count ≡ count)
    × (visits.shelf ≡ shown) × (visits.pages ≡ pages)
IsRoomOf port count pages None (Some visits) = ⊥
IsRoomOf port count pages (Some shown) None = ⊥

-- 0 where it was said that the room listens; 1 where a prefix of that was said at the least, for a reason; the
-- writer is blamed only where it failed in this call, by its count
pub record VisitsEnd (port status : ℕ) (old new : Option (List ℕ)) (WriterFailed : Type 0) : Type 0 where
  pub bound : status ≤ 1
  pub done : status ≡ 0 → Appends old new (listening_line port)
  pub refused : status ≡ 1 → (why : RefusalKind) × AppendsBeginning old new (listening_line port)
      × (why ≡ WriteFailed → WriterFailed)
