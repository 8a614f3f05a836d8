-- Archives of the first version: their dates were read by the grammar of that time, and they have no spans. What such
-- an archive holds is said anew, by the grammar of today. Rules of our own.
use Rattle.std.specs.Prelude.{◌≡◌, ◌⊎◌, ℕ, List}
use Rattle.sqlite.specs.State.{State}
use Rattle.sqlite.specs.Tree.{Trees}
use Rattle.archive_state.specs.Content.{Content}
use Rattle.older_archives.specs.Anew.{IsAnew, IsSoundOld, OldContent}
use Rattle.store_tables.specs.Calls.{Good, Settled}
use Rattle.store_tables.specs.Rows.{Rows}
use Rattle.older_archives.specs.Meaning.{AllShallowOld, MeansOld}
use Rattle.store.specs.Archives.{HasArchive, IsArchive}

-- the rows of a society's archive of the first version: they mean what it held by the grammar of that time, all of it
-- can be read, and it was sound
pub record KeepsOld (society : List ℕ) (before : OldContent) (rows : Rows) : Type 0 where
  pub means : MeansOld rows before
  pub shallow : AllShallowOld before
  pub sound : IsSoundOld before
  pub society_is : rows.society ≡ society

-- good tables of the first version, which held this
abbrev pub HeldOld : List ℕ → OldContent → Trees → Type 0
HeldOld society before t = (rows : Rows) × Good rows t × KeepsOld society before rows

-- a connection over such tables, on the disk too; no transaction is open
abbrev pub HasOld : List ℕ → OldContent → State → Type 0
HasOld society before s = (rows : Rows) × Settled s rows × KeepsOld society before rows

-- good tables of the first version, and this is anew what they held
abbrev pub WasArchive : List ℕ → Content → Trees → Type 0
WasArchive society c t = (before : OldContent) × IsAnew before c × HeldOld society before t

-- the same of a connection
abbrev pub HadArchive : List ℕ → Content → State → Type 0
HadArchive society c s = (before : OldContent) × IsAnew before c × HasOld society before s

-- ---- of either version
-- good tables of an archive that holds this, or of the first version, and then it is this anew
abbrev pub HoldsArchive : List ℕ → Content → Trees → Type 0
HoldsArchive society c t = IsArchive society c t ⊎ WasArchive society c t

-- the same of a connection
abbrev pub ShowsArchive : List ℕ → Content → State → Type 0
ShowsArchive society c s = HasArchive society c s ⊎ HadArchive society c s

-- whatever a crash may leave is good, of either version, and holds this
abbrev pub LeavesHeld : State → List ℕ → Content → Type 0
LeavesHeld s society c = (t : Trees) → s.may_leave t → HoldsArchive society c t
