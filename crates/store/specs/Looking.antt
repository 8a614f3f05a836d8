-- What is read of tables, good or not, and what looks at single rows leave. Rules of our own.
use Rattle.std.specs.Prelude.{◌≡◌, ◌⊎◌, Bool, false}
use Rattle.sqlite.specs.State.{State, HasCleanDisk}
use Rattle.record_text.specs.declared.refusal.RefusalKind.{RefusalKind}
use Rattle.record_text.specs.declared.refusal.RefusalKind.TheVariants.{BadStored}
use Rattle.archive_state.specs.Content.{Content}
use Rattle.store_rows.specs.Meaning.{AreReadable, Means}
use Rattle.store_tables.specs.Calls.{LeavesOnly, Settled}
use Rattle.store_tables.specs.Looking.{IsFailure}
use Rattle.store_tables.specs.Rows.{Rows}
use Rattle.store.specs.Viewing.{OnReadable}

-- this is what settled tables mean
abbrev pub IsRead : State → Content → Type 0
IsRead s held = (rows : Rows) → Settled s rows → Means rows held

-- settled tables are refused so: 1 or 80, or 40 where their rows cannot be read
abbrev pub IsUnread : State → RefusalKind → Type 0
IsUnread s kind = (rows : Rows) → Settled s rows → IsFailure kind ⊎ ((kind ≡ BadStored) × ¬ (AreReadable rows))

-- looks, which write nothing: unless the database failed, settled tables that can be read, and in which each record has
-- its links and the row of what it is looked for by, stay settled, with the rows that they have; a crash leaves these
-- rows in any case
pub record StaysReadable (old : State) (failed : Bool) (new : State) : Type 0 where
  pub same : failed ≡ false → OnReadable old (λ rows _. Settled new rows)
  pub crash : OnReadable old (λ rows _. LeavesOnly new rows)
  pub clean : HasCleanDisk old
