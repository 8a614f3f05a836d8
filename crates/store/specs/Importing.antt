-- An archive with an import on it: begun, and not yet published. Rules of our own.
use Rattle.std.specs.Prelude.{ℕ, ◌≡◌, ◌≢◌, List, Option, Some, None, Ok}
use Rattle.std.specs.FinMap.{get}
use Rattle.sqlite.specs.State.{State}
use Rattle.archive_state.specs.Applied.{applied}
use Rattle.archive_state.specs.Content.{Content}
use Rattle.archive_core.specs.Machine.{Does, outcome}
use Rattle.archive_core.specs.Words.{HasUtf8Words}
use Rattle.archive_core.specs.declared.request.Request.{Request}
use Rattle.receipts.specs.declared.answer.Answer.{Answer}
use Rattle.store_tables.specs.Calls.{Settled}
use Rattle.store_tables.specs.Rows.{Rows}
use Rattle.staged_rows.specs.Staging.{IsFresh, rows_of_import}
use Rattle.staging.specs.Opened.{Import}
use Rattle.import_commits.specs.Commits.{AreWrittenAnew, IsAddition, IsBegun}
use Rattle.store.specs.Archives.{HasArchive, Keeps}
use Rattle.store.specs.Calls.{KeepsRows, StaysClosed}
use Rattle.store.specs.Overwritten.{AddsValues}

-- a request to import, accepted: nothing is kept for it, and the archive is to be what its changes make
pub record IsAccepted (c : Content) (r : Request) (i : Import) : Type 0 where
  pub new : get c.receipts r.token ≡ None
  pub accepted : outcome c r ≡ Ok (applied c i.changes, i.changes.answer)
  pub words : HasUtf8Words r.command
  pub adds : IsAddition c i.changes

-- the rows of a society's archive, with an import on them that a request was accepted for: its batch, which is open,
-- and a beginning of its rows, of which no link was there
pub record KeepsImport (society : List ℕ) (c : Content) (r : Request) (i : Import) (rows : Rows) : Type 0 where
  pub before : Rows
  pub keeps : Keeps society c before
  pub fresh : IsFresh i.batch i.changes.puts before
  pub begun : IsBegun before i rows
  pub anew : AreWrittenAnew before i rows begun
  pub accepted : IsAccepted c r i

-- a connection over the tables of an archive with an import on it
abbrev pub HasImport : List ℕ → Content → Request → Import → State → Type 0
HasImport society c r i s = (rows : Rows) × Settled s rows × KeepsImport society c r i rows

-- the import stays on the archive, over the same rows of before
abbrev pub StaysOn : Import → State → Import → State → Type 0
StaysOn i old j new = (society : List ℕ) (c : Content) (r : Request) → (has : HasImport society c r i old)
    → (still : HasImport society c r j new) × (still.2.before ≡ has.2.before)

-- an import was just begun on these rows, with this answer: none of its own rows is written
abbrev pub HasBegun : List ℕ → Content → Rows → Request → Answer → Import → State → Type 0
HasBegun society c rows r answer i s = (has : HasImport society c r i s) × (has.2.before ≡ rows)
    × (i.left ≡ rows_of_import i.batch i.changes.puts has.2.begun.drawn) × (i.changes.answer ≡ answer)

-- a request is answered by what is kept for it, and the rows stay
abbrev pub HasAnswered : Content → Rows → Request → Answer → State → Type 0
HasAnswered c rows r answer s = Does c r (Ok answer) c × Settled s rows × (get c.receipts r.token ≢ None)

-- an import was published, over these rows of before: the request is done, and leaves the rows of what it does not
-- change, and no import open, and adds no value of before but of what it overwrites
abbrev pub HasPublished : List ℕ → Content → Rows → Request → Import → State → Type 0
HasPublished society c before r i s = Does c r (Ok i.changes.answer) (applied c i.changes) × ((now : Rows)
    × Settled s now × Keeps society (applied c i.changes) now × KeepsRows c (applied c i.changes) before now
    × StaysClosed before now × AddsValues c r (applied c i.changes) before now)

-- what a connection has, by the import that is open
abbrev pub Has : List ℕ → Content → Option (Request × Import) → State → Type 0
Has society c None s = HasArchive society c s
Has society c (Some both) s = HasImport society c both.0 both.1 s
