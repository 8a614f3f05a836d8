-- An archive taken up in a file, by what the file and its log held as they were opened. Rules of our own.
use Rattle.std.specs.Prelude.{◌≡◌, ◌⊎◌, ℕ, true, false, List}
use Rattle.sqlite.specs.Files.{HoldsDatabase, file_state, over_files}
use Rattle.sqlite.specs.Held.{Held}
use Rattle.sqlite.specs.State.{State, HasCleanDisk}
use Rattle.sqlite.specs.Tree.{Trees}
use Rattle.sqlite_disk.specs.declared.Disk as disk
use Rattle.sqlite_store.specs.declared.store.FileStore.{FileStore}
use Rattle.sqlite_wal.specs.Recovery.{Image}
use Rattle.archive_state.specs.Content.{Content}
use Rattle.archive_state.specs.Looks.{is_stop}
use Rattle.archive_files.specs.DatabaseOpening.{IsUnopenedOver}
use Rattle.archive_files.specs.declared.left.Left.{Left}
use Rattle.archive_files.specs.declared.left.Left.TheVariants as left
use Rattle.record_text.specs.declared.refusal.RefusalKind.{RefusalKind}
use Rattle.record_text.specs.declared.refusal.RefusalKind.TheVariants.{NotAnArchive, Storage}
use Rattle.store_tables.specs.Looking.{IsFailure}
use Rattle.store.specs.Adopting.{HasNoImport, IsRecognised, RefusesToAdopt, is_foreign}
use Rattle.store.specs.Archives.{HasArchive, LeavesArchive}
use Rattle.store.specs.Earlier.{HoldsArchive}
use Rattle.store.specs.Lives.{IsRefusedOver}
use Rattle.store.specs.Shut.{is_shut}
use Rattle.store.specs.declared.archive.Archive.{Archive}

-- of each archive that the file with its log held, in tables of either version, by its society and what it holds
abbrev pub WhereHeld : Image → (List ℕ → Content → Type 0) → Type 0
WhereHeld image P = (society : List ℕ) (c : Content) (t : Trees) → HoldsDatabase image t
    → HoldsArchive society c t → P society c

-- P of the tables that the file with its log held
abbrev pub OfTables : Image → (Trees → Type 0) → Type 0
OfTables image P = (t : Trees) → HoldsDatabase image t → P t

-- P of a connection that was opened over these tables
abbrev pub WhereOpened : {D : Type 0} → disk.Ghosts D → Trees → (State → Type 0) → Type 0
WhereOpened {D} g t P = (opened : Held (FileStore D g)) × ((file_state opened).committed.trees ≡ t)
    × P (file_state opened)

-- the tables were recognised as an archive of a version that is known
abbrev pub WereRecognised : {D : Type 0} → disk.Ghosts D → Trees → Type 0
WereRecognised {D} g t = WhereOpened g t (IsRecognised (over_files {D = D} {g = g}))

-- the tables are refused for this reason: 82, they are no archive; 83, a later program made them; others of any tables
abbrev pub WereRefused : {D : Type 0} → disk.Ghosts D → RefusalKind → Trees → Type 0
WereRefused {D} g kind t = WhereOpened g t (λ s. RefusesToAdopt (over_files {D = D} {g = g}) s kind)

-- these tables are all that a crash leaves; and a store that is refused for what it is, with 82 or 83, shows them and
-- has them committed
abbrev pub LeavesJust : Trees → RefusalKind → State → Type 0
LeavesJust t kind s = ((left : Trees) → s.may_leave left → left ≡ t)
    × (is_foreign kind ≡ true → (s.now.trees ≡ t) × (s.committed.trees ≡ t))

-- the tables are left as they were; or they were recognised, and they were refused by 1, 40 or 80 while imports were
-- removed of them, or while they were written anew
abbrev pub IsAsHeld : {D : Type 0} → disk.Ghosts D → RefusalKind → State → Trees → Type 0
IsAsHeld g kind s t = LeavesJust t kind s ⊎ ((is_stop kind ≡ true) × WereRecognised g t)

-- why nothing opened the file: 82, there is none; 80, the kit did not get it
abbrev pub IsUnopened : RefusalKind → Type 0
IsUnopened kind = (kind ≡ NotAnArchive) ⊎ (kind ≡ Storage)

module _ {D : Type 0} {g : disk.Ghosts D} where
  -- the archive that the file held is open, and takes requests: it is of the second version, no import is open on it,
  -- and a crash leaves it. The file held one: its tables were recognised
  pub record IsTakenUp (image : Image) (a : Archive (FileStore D g) over_files) : Type 0 where
    pub kept : a.is_lost ≡ false
    pub ready : is_shut a ≡ false
    pub quiet : a.failures ≡ 0
    pub has : HasCleanDisk (file_state a.conn) → WhereHeld image (λ society c. HasArchive society c (file_state a.conn)
        × HasNoImport (file_state a.conn) × LeavesArchive (file_state a.conn) society (λ found. found ≡ c))
    pub recognised : HasCleanDisk (file_state a.conn) → OfTables image (WereRecognised g)

  -- the file was opened, and no archive is taken up: one that it held is refused only if out of memory, or because
  -- the database failed, and a crash leaves it; whatever it held, it is refused for a reason, and is as it was
  pub record IsRefused (image : Image) (kind : RefusalKind) (conn : Held (FileStore D g)) : Type 0 where
    pub ended : conn.in_transaction ≡ false
    pub failed : HasCleanDisk (file_state conn) → WhereHeld image (λ _ _. IsFailure kind)
    pub spared : HasCleanDisk (file_state conn) → OfTables image (λ t. IsRefusedOver t (file_state conn))
    pub as_held : HasCleanDisk (file_state conn) → OfTables image (IsAsHeld g kind (file_state conn))
    pub reason : HasCleanDisk (file_state conn) → OfTables image (WereRefused g kind)

  -- no archive was taken up, and that is left of the file: nothing opened it; it could not be opened, or is no
  -- database, and what that left of it holds what it held; or it was opened
  abbrev pub Unopened : {S : Type 0} → Image → RefusalKind → Left S D g → Type 0
  Unopened image kind (left.Untouched start) = IsUnopened kind
  Unopened image kind (left.Unopened rest) = (kind ≡ Storage) × IsUnopenedOver image rest
  Unopened image kind (left.Open conn) = IsRefused image kind conn

-- P of each archive that the file held, and a crash leaves it
abbrev pub OnHeld : Image → (List ℕ → Content → Type 0) → State → Type 0
OnHeld image P s = HasCleanDisk s
    → WhereHeld image (λ society c. P society c × LeavesArchive s society (λ found. found ≡ c))
