-- An archive in the tables of a store: its society and what it holds, now and after a stop. Rules of our own.
use Rattle.std.specs.Prelude.{ℕ, ◌≡◌, List}
use Rattle.sqlite.specs.State.{State}
use Rattle.sqlite.specs.Tree.{Trees}
use Rattle.archive_state.specs.Content.{Content}
use Rattle.archive_state.specs.Sound.{IsSound}
use Rattle.store_tables.specs.Calls.{Good, Settled}
use Rattle.store_tables.specs.Rows.{Rows}
use Rattle.store_rows.specs.Links.{KeepsLinks}
use Rattle.store_rows.specs.Meaning.{Means, AllShallow}
use Rattle.store_rows.specs.Sought.{KeepsSought}
use Rattle.store_rows.specs.Spans.{IsDated, KeepsSpans}

-- the rows of a society's archive, of the version that this program writes: they mean what it holds, all of it can be
-- read, it is sound, and each record has its links, the row of what it is looked for by, and the span of its date
pub record Keeps (society : List ℕ) (c : Content) (rows : Rows) : Type 0 where
  pub means : Means rows c
  pub shallow : AllShallow c
  pub sound : IsSound c
  pub society_is : rows.society ≡ society
  pub dated : IsDated rows
  pub spans : KeepsSpans rows c
  pub links : KeepsLinks rows c
  pub soughts : KeepsSought rows c

-- good tables: they list the archive's schema and obey it, and have such rows
abbrev pub IsArchive : List ℕ → Content → Trees → Type 0
IsArchive society c t = (rows : Rows) × Good rows t × Keeps society c rows

-- a connection over good tables, on the disk too; no transaction is open
abbrev pub HasArchive : List ℕ → Content → State → Type 0
HasArchive society c s = (rows : Rows) × Settled s rows × Keeps society c rows

-- whatever a crash may leave is good, and holds something that may be found
abbrev pub LeavesArchive : State → List ℕ → (Content → Type 0) → Type 0
LeavesArchive s society MayBeFound = (t : Trees) → s.may_leave t → (found : Content) × MayBeFound found
    × IsArchive society found t
