-- What an archive shows to those who look at single rows of it: rows whose content nobody has read whole. Rules of our
-- own.
use Rattle.std.specs.Prelude.{ℕ, ◌≡◌, Bool, false}
use Rattle.sqlite.specs.State.{State}
use Rattle.archive_state.specs.Content.{Content}
use Rattle.store_rows.specs.Links.{KeepsLinks}
use Rattle.store_rows.specs.Meaning.{AllShallow, Means}
use Rattle.store_rows.specs.Sought.{KeepsSought}
use Rattle.store_tables.specs.Calls.{LeavesOnly, Settled}
use Rattle.store_tables.specs.Rows.{Rows}

-- rows of which looks see what they mean: all of it can be read, and each record has its links, and the row of what it
-- is looked for by
pub record AreSeen (rows : Rows) (c : Content) : Type 0 where
  pub means : Means rows c
  pub shallow : AllShallow c
  pub links : KeepsLinks rows c
  pub soughts : KeepsSought rows c

-- the rows of an archive, and what is seen of them
pub record Kept : Type 0 where
  pub rows : Rows
  pub content : Content
  pub seen : AreSeen rows content

-- an archive shows these rows: a crash leaves nothing else; and while it is not lost, its connection has them, and no
-- look has failed
pub record Shows (s : State) (is_lost : Bool) (failures : ℕ) (kept : Kept) : Type 0 where
  pub crash : LeavesOnly s kept.rows
  pub settled : is_lost ≡ false → Settled s kept.rows
  pub none : is_lost ≡ false → failures ≡ 0

-- rows of a connection of which looks see what they mean: P holds of them, and of that
abbrev pub OnReadable : State → (Rows → Content → Type 0) → Type 0
OnReadable s P = (rows : Rows) (c : Content) → Settled s rows → AreSeen rows c → P rows c
