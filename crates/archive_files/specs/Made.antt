-- An archive that was just made in a file, and why none was. Rules of our own.
use Rattle.std.specs.Prelude.{◌≡◌, ◌≢◌, ◌⊎◌, List, ℕ}
use Rattle.sqlite.specs.Files.{HoldsDatabase, file_state}
use Rattle.sqlite.specs.State.{State, HasCleanDisk}
use Rattle.sqlite.specs.Tree.{Trees}
use Rattle.sqlite_disk.specs.declared.Disk as disk
use Rattle.sqlite_wal.specs.Recovery.{Image}
use Rattle.archive_state.specs.Content.{nothing}
use Rattle.archive_files.specs.DatabaseOpening.{IsUnopenedOver}
use Rattle.archive_files.specs.declared.left.Left.{Left}
use Rattle.archive_files.specs.declared.left.Left.TheVariants as left
use Rattle.record_text.specs.declared.refusal.RefusalKind.{RefusalKind}
use Rattle.record_text.specs.declared.refusal.RefusalKind.TheVariants.{BadText, NotAnArchive, OutOfMemory, Storage}
use Rattle.store_tables.specs.Calls.{IsBlank}
use Rattle.store_tables.specs.Schema.{no_schema}
use Rattle.store.specs.Archives.{HasArchive, IsArchive, LeavesArchive}
use Rattle.store.specs.Creating.{IsSociety}
use Rattle.store.specs.Lives.{IsOpenedOver}
use Rattle.archive_files.specs.Opening.{OfTables}

-- nothing was made in the file before
abbrev pub WasBlank : Image → State → Type 0
WasBlank image s = HasCleanDisk s → (t : Trees) → HoldsDatabase image t → IsBlank t

-- the archive of a society, in which nothing is yet, where nothing was made before; a crash leaves it
abbrev pub IsMadeFor : Image → List ℕ → State → Type 0
IsMadeFor image society s = IsSociety society × WasBlank image s
    × (HasCleanDisk s → HasArchive society nothing s × LeavesArchive s society (λ found. found ≡ nothing))

-- something was made in the file before; an archive that it held, of either version, is as it was
abbrev pub WasThere : Image → State → Type 0
WasThere image s = (s.now.schema ≢ no_schema) × (HasCleanDisk s → OfTables image (λ t. IsOpenedOver t s))

-- the database failed: nothing was made in the file before, and a crash leaves it so, or with the new archive
abbrev pub IsHalfMade : Image → List ℕ → State → Type 0
IsHalfMade image society s = WasBlank image s
    × (HasCleanDisk s → (t : Trees) → s.may_leave t → IsBlank t ⊎ IsArchive society nothing t)

-- why no archive was made where nothing opened the file: 58, the society has no name; 1; 80, the kit did not get it
abbrev pub IsUnmade : List ℕ → RefusalKind → Type 0
IsUnmade society kind = ((kind ≡ BadText) × ¬ IsSociety society)
    ⊎ ((kind ≡ OutOfMemory) ⊎ ((kind ≡ Storage) × IsSociety society))

-- and after it: 82, something was there; 80, the database failed
abbrev pub IsUnmadeIn : Image → List ℕ → RefusalKind → State → Type 0
IsUnmadeIn image society kind s = IsSociety society
    × (((kind ≡ NotAnArchive) × WasThere image s) ⊎ ((kind ≡ Storage) × IsHalfMade image society s))

module _ {D S : Type 0} {g : disk.Ghosts D} where
  -- a file was opened, and has the new archive
  abbrev pub IsMadeIn : Image → List ℕ → Left S D g → Type 0
  IsMadeIn image society (left.Open conn) = IsMadeFor image society (file_state conn)
  IsMadeIn image society _ = ⊥

  -- no archive was made, and that is left of the file
  abbrev pub Unmade : Image → List ℕ → RefusalKind → Left S D g → Type 0
  Unmade image society kind (left.Untouched start) = IsUnmade society kind
  Unmade image society kind (left.Unopened rest) = (kind ≡ Storage) × IsSociety society × IsUnopenedOver image rest
  Unmade image society kind (left.Open conn) = IsUnmadeIn image society kind (file_state conn)
