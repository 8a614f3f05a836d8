-- Why a store is refused where it is no archive of this program, and what becomes of one that is. Rules of our own.
use Rattle.std.specs.Prelude.{◌≡◌, ◌⊎◌, ◌&&◌, Bool, true, false, IsTrue, List, ℕ, ⊤, Result, OnOk, OnErr, IfErr}
use Rattle.sqlite.specs.Held.{Held, state}
use Rattle.sqlite.specs.State.{HasCleanDisk, State, Survives}
use Rattle.sqlite.specs.Tree.{Trees}
use Rattle.sqlite_rules.specs.Lists.{Has}
use Rattle.sqlite_trees.specs.declared.store.Store.{Ghosts}
use Rattle.archive_state.specs.Content.{Content}
use Rattle.archive_state.specs.Looks.{is_stop}
use Rattle.record_text.specs.declared.refusal.RefusalKind.{RefusalKind}
use Rattle.record_text.specs.declared.refusal.RefusalKind.TheVariants.{
  BadStored,
  NewerSchema,
  NotAnArchive,
  OutOfMemory,
  Storage,
}
use Rattle.store_tables.specs.Calls.{Good, LeavesOnly, Settled}
use Rattle.store_tables.specs.Looking.{IsFailure, IsRefusedStore, ShowsVersion, version_number}
use Rattle.store_tables.specs.Prepared.{IsUnderstood, NamesMissing, queries_of}
use Rattle.store_tables.specs.Rows.{BatchRow, PastRow, Rows}
use Rattle.store_tables.specs.declared.version.Version.{Version}
use Rattle.store_rows.specs.Meaning.{is_closed}
use Rattle.store_rows.specs.Pasts.{HasMorePasts}
use Rattle.store_rows.specs.Spans.{IsDated}
use Rattle.staged_rows.specs.Removing.{IsSeenAs}
use Rattle.staged_rows.specs.Staging.{AreAllClosed}
use Rattle.staging.specs.Clearing.{IsCleared, LeavesSeen}
use Rattle.older_archives.specs.Meaning.{MeansAnew}
use Rattle.older_archives.specs.Renewing.{IsRenewed, LeavesRenewed}
use Rattle.store.specs.Archives.{HasArchive, Keeps, LeavesArchive}
use Rattle.store.specs.Calls.{OnArchive}
use Rattle.store.specs.Earlier.{HadArchive, LeavesHeld, ShowsArchive}
use Rattle.store.specs.Histories.{has_broken}
use Rattle.std.specs.List.{AllByRecursion, list_any}

-- a table or a column is missing that is read in an archive of this version
abbrev pub LacksTable : Version → State → Type 0
LacksTable version s = (sql : List ℕ) × Has (queries_of version) sql × NamesMissing s.now.schema sql

-- the store shows a version that is known here
abbrev pub ShowsKnown : State → State → Version → Type 0
ShowsKnown old new version = ShowsVersion (version_number version) old new

-- the store shows neither the first version nor the second, nor a later one; or it shows one of the former two, and
-- something that is read of it is missing
abbrev pub IsNoArchive : {S : Type 0} → Ghosts S → State → Type 0
IsNoArchive {S} g old = (read : Held S)
    × (IsRefusedStore old (state g read) NotAnArchive
    ⊎ ((version : Version) × ShowsKnown old (state g read) version × LacksTable version (state g read)))

-- the store shows this version, and has every table and column that is read of it
abbrev pub IsOfVersion : {S : Type 0} → Ghosts S → State → Version → Type 0
IsOfVersion {S} g old version = (read : Held S) × ShowsKnown old (state g read) version × AllByRecursion
    (IsUnderstood (state g read).now.schema) (queries_of version)

-- the store is of the first version or of the second
abbrev pub IsRecognised : {S : Type 0} → Ghosts S → State → Type 0
IsRecognised g old = (version : Version) × IsOfVersion g old version

-- a store is refused for what it is: 82 or 83
abbrev pub is_foreign : RefusalKind → Bool
is_foreign NotAnArchive = true
is_foreign NewerSchema = true
is_foreign _ = false

-- nothing is committed, and a crash leaves what was committed before
pub record LeavesStore (old new : State) : Type 0 where
  pub survives : Survives old new (λ _. ⊥)
  pub crash : HasCleanDisk new → IsTrue old.is_open → (t : Trees) → new.may_leave t → t ≡ old.committed.trees

-- what a store that is refused leaves: nothing is committed; or it was recognised, and it was refused by 1, 40 or 80
-- while imports were removed of it, or while it was written anew
abbrev pub LeavesRefused : {S : Type 0} → Ghosts S → State → RefusalKind → State → Type 0
LeavesRefused g old kind new = LeavesStore old new ⊎ ((is_stop kind ≡ true) × (HasCleanDisk new → IsRecognised g old))

-- rows that mean no archive of the first version
abbrev pub IsUnreadable : State → Type 0
IsUnreadable old = (rows : Rows) (c : Content) → Settled old rows → ¬ (MeansAnew rows c)

-- 82: the store is no archive. 83: it shows a later version. 40: it is of one of the two versions, and its rows mean no
-- archive of the first one. Memory may be refused, and the database may fail, of any store
abbrev pub RefusesToAdopt : {S : Type 0} → Ghosts S → State → RefusalKind → Type 0
RefusesToAdopt g old NotAnArchive = IsNoArchive g old
RefusesToAdopt {S} g old NewerSchema = (read : Held S) × IsRefusedStore old (state g read) NewerSchema
RefusesToAdopt g old BadStored = IsRecognised g old × IsUnreadable old
RefusesToAdopt g old OutOfMemory = ⊤
RefusesToAdopt g old Storage = ⊤
RefusesToAdopt g old _ = ⊥

-- ---- an archive that is taken up
-- an import is open: a batch is, while that of commands is closed
abbrev pub has_import : List BatchRow → Bool
has_import bs = is_closed 0 bs && list_any (λ (b : BatchRow). b.is_open) bs

-- no import is open: every batch is closed
abbrev pub HasNoImport : State → Type 0
HasNoImport s = (rows : Rows) → Settled s rows → AreAllClosed rows

-- a call that leaves an archive what it holds: unless the database failed, the connection has it; a crash leaves it in
-- any case
pub record KeepsArchive (old : State) (failed : Bool) (new : State) : Type 0 where
  pub same : failed ≡ false → (society : List ℕ) (c : Content) → HasArchive society c old → HasArchive society c new
  pub crash : (society : List ℕ) (c : Content) → HasArchive society c old
      → LeavesArchive new society (λ found. found ≡ c)
  pub clean : HasCleanDisk old

-- an archive has its rows of values of before, all and in their order
abbrev pub HasPasts : List ℕ → Content → Rows → Rows → Type 0
HasPasts society c rows now = Keeps society c now × (now.pasts ≡ rows.pasts)

-- the values of before of an archive stay: unless the database failed the connection has them; a crash leaves them in
-- any case
pub record KeepsPasts (old : State) (failed : Bool) (new : State) : Type 0 where
  pub same : failed ≡ false → OnArchive old (λ society c rows. (now : Rows) × Settled new now
      × HasPasts society c rows now)
  pub crash : OnArchive old (λ society c rows. (t : Trees) → new.may_leave t → (now : Rows) × Good now t
      × HasPasts society c rows now)

-- a connection has an archive of this society, with all these rows of values of before, and they come first
abbrev pub HasValuesOf : Rows → List ℕ → State → Type 0
HasValuesOf rows society s = (c : Content) × (now : Rows) × Settled s now × Keeps society c now
    × ((more : List PastRow) × HasMorePasts rows now more)

-- an archive of the first version is taken up, and imports that were left open are removed from it: then it is one of
-- the second version, holds anew what it held, and no import is open. It is refused only if out of memory, or because
-- the database failed; unless the latter, the connection has it, in one of the two versions. Whatever a crash may leave
-- holds it, in one of the two versions
pub record TakesUpAnew (old : State) (result : Result (Unit {0}) RefusalKind) (new : State) : Type 0 where
  pub finished : OnOk result ((society : List ℕ) (c : Content) → HadArchive society c old
      → HasArchive society c new × HasNoImport new × LeavesArchive new society (λ found. found ≡ c))
  pub shows : has_broken result ≡ false → (society : List ℕ) (c : Content) → HadArchive society c old
      → ShowsArchive society c new
  pub refused : IfErr result (λ kind. (society : List ℕ) (c : Content) → HadArchive society c old → IsFailure kind)
  pub crash : (society : List ℕ) (c : Content) → HadArchive society c old → LeavesHeld new society c

-- an archive is taken up, and imports that were left open are removed from it: then none is open, and all values of
-- before are there. It is refused only if out of memory, or because the database failed. Where none was left open it
-- keeps its rows, and a crash leaves just these. One of the first version is converted
pub record TakesUp (old : State) (result : Result (Unit {0}) RefusalKind) (new : State) : Type 0 where
  pub keeps : KeepsArchive old (has_broken result) new
  pub pasts : KeepsPasts old (has_broken result) new
  pub finished : OnOk result ((society : List ℕ) (c : Content) → HasArchive society c old → HasNoImport new)
  pub refused : IfErr result (λ kind. (society : List ℕ) (c : Content) → HasArchive society c old → IsFailure kind)
  pub untouched : (rows : Rows) → Settled old rows → IsDated rows → AreAllClosed rows
      → (has_broken result ≡ false → Settled new rows) × LeavesOnly new rows
  pub anew : TakesUpAnew old result new

-- ---- imports are removed
-- settled tables that have spans, or that have none, of which the batch of commands is closed
pub record IsToClear (has_spans : Bool) (s : State) (rows : Rows) : Type 0 where
  pub settled : Settled s rows
  pub schema : rows.has_spans ≡ has_spans
  pub batch : is_closed 0 rows.batches ≡ true

-- settled tables of which the same is seen as of these rows
abbrev pub ShowsSeen : State → Rows → Type 0
ShowsSeen s rows = (after : Rows) × Settled s after × IsSeenAs rows after

-- a store that is refused, though the database did not fail: settled tables in which every batch is closed keep their
-- rows, also after a stop. Of those of the first version of which an import was left open the same is seen
pub record StaysSettled (old new : State) : Type 0 where
  pub same : (rows : Rows) → Settled old rows → AreAllClosed rows → Settled new rows × LeavesOnly new rows
  pub seen : (rows : Rows) → rows.version ≡ 1 → IsToClear false old rows → ShowsSeen new rows × LeavesSeen new rows

-- imports are removed of such tables: then every batch is closed. Unless the database failed the same is seen of
-- them, and a crash leaves that in any case; where every batch was closed they keep their rows
pub record ClearsImports (has_spans : Bool) (old : State) (result : Result (Unit {0}) RefusalKind)
    (new : State) : Type 0 where
  pub cleared : OnOk result ((rows : Rows) → IsToClear has_spans old rows → IsCleared new rows)
  pub stays : has_broken result ≡ false → (rows : Rows) → IsToClear has_spans old rows → ShowsSeen new rows
  pub crash : (rows : Rows) → IsToClear has_spans old rows → LeavesSeen new rows
  pub refused : IfErr result (λ kind. (rows : Rows) → Settled old rows → IsFailure kind)
  pub untouched : (rows : Rows) → Settled old rows → AreAllClosed rows
      → (has_broken result ≡ false → Settled new rows) × LeavesOnly new rows
  pub clean : HasCleanDisk old

-- ---- settled tables of the first version, in which every date is read anew
pub record RenewsRows (old : State) (result : Result (Unit {0}) RefusalKind) (new : State) : Type 0 where
  pub done : OnOk result ((rows : Rows) (c : Content) → Settled old rows → MeansAnew rows c
      → (after : Rows) × IsRenewed rows c after × Settled new after × LeavesOnly new after)
  pub stays : has_broken result ≡ false
      → OnErr result ((rows : Rows) → Settled old rows → Settled new rows × LeavesOnly new rows)
  pub crash : (rows : Rows) (c : Content) → Settled old rows → MeansAnew rows c → LeavesRenewed new rows c
  pub refused : IfErr result (λ kind. (rows : Rows) (c : Content) → Settled old rows → MeansAnew rows c
      → IsFailure kind)
  pub clean : HasCleanDisk old
