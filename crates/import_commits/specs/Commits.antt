-- What the commits of a staged import make of the rows of an archive. Rules of our own.
use Rattle.std.specs.Prelude.{ℕ, ◌≡◌, ◌⊎◌, ◌==◌, true, false, List, [], ◌++◌, None}
use Rattle.std.specs.FinMap.{get}
use Rattle.std.specs.List.{list_any}
use Rattle.sqlite.specs.State.{State}
use Rattle.sqlite.specs.Tree.{Trees}
use Rattle.archive_state.specs.Changes.{Changes}
use Rattle.archive_state.specs.Content.{Content}
use Rattle.archive_state.specs.declared.changes.Numbered.{Numbered}
use Rattle.record_shapes.specs.Lists.{EachOf, IsOnce}
use Rattle.store_tables.specs.Calls.{Good}
use Rattle.store_tables.specs.Rows.{Rows, BatchRow, with_batch}
use Rattle.store_rows.specs.Shallow.{IsShallowPut}
use Rattle.store_rows.specs.Spans.{AreDrawn, Drawn}
use Rattle.staged_rows.specs.Staging.{
  AreAllClosed,
  AreNew,
  StagedRow,
  numbers_of,
  rows_of_import,
  with_published,
  with_staged,
}
use Rattle.staging.specs.Opened.{Import}

-- whatever a crash may leave is good, and has these rows, or those that a commit makes of them
abbrev pub LeavesEither : State → Rows → Rows → Type 0
LeavesEither s rows after = (t : Trees) → s.may_leave t → Good rows t ⊎ Good after t

-- whatever a crash may leave is good, and has these rows, or those with an import published; what that puts can be read
-- again, where no row of it was left to be written
abbrev pub LeavesPublished : State → Rows → Import → Type 0
LeavesPublished s rows i = (t : Trees) → s.may_leave t → Good rows t
    ⊎ (Good (with_published i.batch i.changes rows) t × (i.left ≡ [] → EachOf IsShallowPut i.changes.puts))

-- the number of a batch that is not there, where all that are there are closed
pub record IsNextBatch (batch : ℕ) (rows : Rows) : Type 0 where
  pub unused : list_any (λ (b : BatchRow). b.no == batch) rows.batches ≡ false
  pub closed : AreAllClosed rows

-- whatever a crash may leave is good, and has these rows, or with them the next batch, which is open
abbrev pub LeavesBegun : State → Rows → Type 0
LeavesBegun s rows = (t : Trees) → s.may_leave t → Good rows t
    ⊎ ((batch : ℕ) × IsNextBatch batch rows × Good (with_batch batch true rows) t)

-- changes that only add records to an archive that holds this: each number is there once, and none has a record
pub record IsAddition (c : Content) (changes : Changes) : Type 0 where
  pub once : IsOnce (numbers_of changes.puts)
  pub free : EachOf (λ (p : Numbered). get c.records p.number ≡ None) changes.puts
  pub removals : changes.removals ≡ []
  pub slip : changes.slip ≡ None

-- the import of these changes, of which no row is written
abbrev pub IsWhole : ℕ → Changes → Import → Type 0
IsWhole batch changes i = (drawn : Drawn) × AreDrawn changes.puts drawn
    × (i ≡ record { batch = batch; changes = changes; left = rows_of_import batch changes.puts drawn })

-- rows with an import on them: those of before, with the import's batch, which is open, and a beginning of its rows
pub record IsBegun (before : Rows) (i : Import) (rows : Rows) : Type 0 where
  pub drawn : Drawn
  pub are : AreDrawn i.changes.puts drawn
  pub done : List StagedRow
  pub parts : rows_of_import i.batch i.changes.puts drawn ≡ done ++ i.left
  pub rows_are : rows ≡ with_staged done (with_batch i.batch true before)

-- and no link was there of those that are written
abbrev pub AreWrittenAnew : (before : Rows) (i : Import) (rows : Rows) → IsBegun before i rows → Type 0
AreWrittenAnew before i rows begun = AreNew begun.done (with_batch i.batch true before)
