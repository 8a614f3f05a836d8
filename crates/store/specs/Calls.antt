-- What the calls of an archive do. All is said of good tables; of others nothing is promised but the refusals.
use Rattle.std.specs.Prelude.{
  ℕ,
  Bool,
  ◌≡◌,
  ◌==◌,
  ◌⊎◌,
  true,
  false,
  List,
  [],
  ◌∷◌,
  filter,
  None,
  Result,
  Ok,
  IfOk,
  IfErr,
}
use Rattle.std.specs.FinMap.{get}
use Rattle.sqlite.specs.State.{State, HasCleanDisk}
use Rattle.sqlite.specs.Tree.{Trees}
use Rattle.record_text.specs.declared.refusal.RefusalKind.{RefusalKind}
use Rattle.archive_state.specs.Content.{Content}
use Rattle.archive_core.specs.Machine.{Does, Done, Runs}
use Rattle.archive_core.specs.declared.request.Request.{Request}
use Rattle.receipts.specs.declared.answer.Answer.{Answer}
use Rattle.archive_state.specs.Applied.{applied}
use Rattle.archive_state.specs.Changes.{Changes}
use Rattle.archive_state.specs.declared.changes.Numbered.{Numbered}
use Rattle.store_rows.specs.Meaning.{AllShallow}
use Rattle.store_rows.specs.Pasts.{with_all_changes}
use Rattle.store_rows.specs.Spans.{AreDrawn, Drawn}
use Rattle.store_tables.specs.Calls.{Good, LeavesOnly, Settled}
use Rattle.store_tables.specs.Looking.{IsFailure}
use Rattle.store_tables.specs.Rows.{Rows, LineRow, PackRow, RecordRow}
use Rattle.staged_rows.specs.Staging.{AreAllClosed}
use Rattle.store.specs.Archives.{HasArchive, IsArchive, Keeps, LeavesArchive}
use Rattle.store.specs.Histories.{Accepts, MayBeFound, has_broken, in_doubt}
use Rattle.store.specs.Overwritten.{AddsValues}

-- the rows of each number at which the same is before and after: its row in `record` and those with its lines, with
-- their keys
abbrev pub KeepsRows : Content → Content → Rows → Rows → Type 0
KeepsRows c after rows now = (m : ℕ) → get c.records m ≡ get after.records m
    → (filter (λ (l : LineRow). l.no == m) now.lines ≡ filter (λ (l : LineRow). l.no == m) rows.lines)
    × (filter (λ (p : PackRow). p.no == m) now.packs ≡ filter (λ (p : PackRow). p.no == m) rows.packs)
    × (filter (λ (r : RecordRow). r.no == m) now.records ≡ filter (λ (r : RecordRow). r.no == m) rows.records)

-- no import is left open: where every batch was closed, every batch is closed
abbrev pub StaysClosed : Rows → Rows → Type 0
StaysClosed rows now = AreAllClosed rows → AreAllClosed now

-- a request on good tables: what is said of it is said of what they hold and of their rows
abbrev pub OnArchive : State → (List ℕ → Content → Rows → Type 0) → Type 0
OnArchive s P = (society : List ℕ) (c : Content) (rows : Rows) → Settled s rows → Keeps society c rows
    → P society c rows

-- a run of the machine on rows: each request leaves the rows of what it does not change, and adds those of the values
-- that it overwrites
abbrev pub RunsOn : Content → Rows → List Done → Content → Rows → Type 0
RunsOn c rows [] after now = (after ≡ c) × (now ≡ rows)
RunsOn c rows (call ∷ more) after now = (between : Content) × (mid : Rows) × Does c call.0 call.1 between
    × KeepsRows c between rows mid × AddsValues c call.0 between rows mid × RunsOn between mid more after now

-- the rows of the archive after such a run, of which no import is left open
abbrev pub RunTo : List ℕ → Content → Rows → List Done → State → Type 0
RunTo society c rows calls new = (after : Content) × (now : Rows) × RunsOn c rows calls after now × Settled new now
    × Keeps society after now × StaysClosed rows now

-- requests with their outcomes. Where the database did not fail, they are a run of the machine, and the archive holds
-- what it leaves, on its rows too; in any case a stop leaves what their history allows
pub record Performs (old : State) (calls : List Done) (new : State) : Type 0 where
  pub done : in_doubt calls ≡ None → (society : List ℕ) (c : Content) → HasArchive society c old
      → (after : Content) × Runs c calls after × HasArchive society after new
  pub rows : in_doubt calls ≡ None → OnArchive old (λ society c rows. RunTo society c rows calls new)
  pub crash : (society : List ℕ) (c : Content) → HasArchive society c old → LeavesArchive new society
      (MayBeFound c calls)
  pub clean : HasCleanDisk old

-- a call that writes nothing: unless the database failed, settled tables stay settled, with the rows that they have; a
-- crash leaves these rows in any case
pub record Stays (old : State) (failed : Bool) (new : State) : Type 0 where
  pub same : failed ≡ false → (rows : Rows) → Settled old rows → Settled new rows
  pub crash : (rows : Rows) → Settled old rows → LeavesOnly new rows
  pub clean : HasCleanDisk old

-- a call that reads: it answers this of what the archive holds, which stays, also after a stop; it is refused only for
-- out of memory, or because the database failed
pub record Reads {A : Type 0} (Is : List ℕ → Content → A → Type 0) (old : State) (result : Result A RefusalKind)
    (new : State) : Type 0 where
  pub read : IfOk result (λ (a : A). (society : List ℕ) (c : Content) → HasArchive society c old → Is society c a)
  pub refused : IfErr result (λ kind. (society : List ℕ) (c : Content) → HasArchive society c old → IsFailure kind)
  pub stays : Stays old (has_broken result) new

-- an acknowledged request is done, and leaves the rows of what it does not change, adds those of the values that it
-- overwrites, and leaves no import open
abbrev pub AcknowledgedBy : List ℕ → Content → Rows → Request → Answer → State → Type 0
AcknowledgedBy society c rows r answer new =
    (after : Content) × (now : Rows) × Does c r (Ok answer) after × Settled new now × Keeps society after now
    × KeepsRows c after rows now × StaysClosed rows now × AddsValues c r after rows now

abbrev pub Acknowledges : State → Request → Answer → State → Type 0
Acknowledges old r answer new = OnArchive old (λ society c rows. AcknowledgedBy society c rows r answer new)

-- the connection has the rows with all changes written, and with these values of before
abbrev pub HasWritten : Rows → Changes → List Numbered → State → Type 0
HasWritten rows changes values new = (drawn : Drawn) × AreDrawn changes.puts drawn
    × Settled new (with_all_changes changes drawn values rows)

-- settled tables that have spans: all this is written
abbrev pub WritesChanges : State → Changes → List Numbered → State → Type 0
WritesChanges old changes values new = (rows : Rows) → rows.has_spans ≡ true → Settled old rows
    → HasWritten rows changes values new

-- whatever a crash may leave has these rows, or those with all this written; the latter can be read again
abbrev pub LeavesEither : State → Rows → Changes → List Numbered → Type 0
LeavesEither s rows changes values = (t : Trees) → s.may_leave t
    → Good rows t ⊎ ((drawn : Drawn) × AreDrawn changes.puts drawn
    × Good (with_all_changes changes drawn values rows) t
    × ((c : Content) → AllShallow c → AllShallow (applied c changes)))

-- whatever a crash may leave is the archive as it was, or with the request done
abbrev pub LeavesDoneOrNot : State → List ℕ → Content → Request → Type 0
LeavesDoneOrNot s society c r = (t : Trees) → s.may_leave t → IsArchive society c t
    ⊎ ((after : Content) × Accepts c r after × IsArchive society after t)

-- the same of these rows: they are as they were, also those of values of before; or the request is done, and added its
-- own to them
abbrev pub LeavesTogether : State → List ℕ → Content → Rows → Request → Type 0
LeavesTogether s society c rows r = (t : Trees) → s.may_leave t → Good rows t
    ⊎ ((after : Content) × (now : Rows) × Accepts c r after × Good now t × Keeps society after now
    × AddsValues c r after rows now)
