-- What a call that only reads answers of settled tables, and what it leaves.
use Rattle.std.specs.Prelude.{◌≡◌, ◌⊎◌, ◌<◌, ℕ, pos, Bool, true, false, List, [], ◌∷◌, codes, Result, IfOk, IfErr, ⊤}
use Rattle.sqlite.specs.declared.error.Error.{Error}
use Rattle.sqlite.specs.declared.types.Value.TheVariants.{Int}
use Rattle.sqlite.specs.Order.{Row}
use Rattle.sqlite.specs.State.{State, HasCleanDisk, Shown, FailsToQuery}
use Rattle.record_text.specs.declared.refusal.RefusalKind.{RefusalKind}
use Rattle.record_text.specs.declared.refusal.RefusalKind.TheVariants.{
  OutOfMemory,
  Storage,
  NewerSchema,
  NotAnArchive,
  BadStored,
}
use Rattle.store_tables.specs.Calls.{Settled, LeavesOnly}
use Rattle.store_tables.specs.Rows.{Rows}
use Rattle.store_tables.specs.declared.version.Version.{Version}
use Rattle.store_tables.specs.declared.version.Version.TheVariants.{First, Second}
use Rattle.store_tables.specs.Telling.{tells_no_archive}

-- memory was refused, or the database failed
abbrev pub IsFailure : RefusalKind → Type 0
IsFailure kind = (kind ≡ OutOfMemory) ⊎ (kind ≡ Storage)

-- the tables stay settled, now and after a crash; what is read of them is that, and is refused only for a failure
pub record Looks {A : Type 0} (Is : Rows → A → Type 0) (old new : State) (result : Result A RefusalKind) : Type 0 where
  pub read : HasCleanDisk new → IfOk result (λ (a : A). (rows : Rows) → Settled old rows → Is rows a)
  pub same : HasCleanDisk new → IfOk result (λ (_ : A). (rows : Rows) → Settled old rows → Settled new rows)
  pub refused : HasCleanDisk new → IfErr result (λ kind. (rows : Rows) → Settled old rows → IsFailure kind)
  pub crash : HasCleanDisk new → (rows : Rows) → Settled old rows → LeavesOnly new rows
  pub clean : HasCleanDisk new → HasCleanDisk old

-- the same of rows some of which may be such as cannot be read: it is refused with 40, too, but only where one is
pub record LooksUnless {A : Type 0} (Is : Rows → A → Type 0) (Reads : Rows → Type 0) (old new : State)
    (result : Result A RefusalKind) : Type 0 where
  pub read : HasCleanDisk new → IfOk result (λ (a : A). (rows : Rows) → Settled old rows → Is rows a)
  pub same : HasCleanDisk new → IfOk result (λ (_ : A). (rows : Rows) → Settled old rows → Settled new rows)
  pub refused : HasCleanDisk new → IfErr result (λ kind. (rows : Rows) → Settled old rows
      → IsFailure kind ⊎ ((kind ≡ BadStored) × ¬ Reads rows))
  pub crash : HasCleanDisk new → (rows : Rows) → Settled old rows → LeavesOnly new rows
  pub clean : HasCleanDisk new → HasCleanDisk old

-- ---- the version of a store
-- the query of the table `meta`
abbrev pub meta_query : List ℕ
meta_query = codes "SELECT version, next, society FROM meta"

-- one row, which begins with a number
abbrev pub HasVersion : ℕ → List Row → Type 0
HasVersion version rows = (more : Row) × (rows ≡ (Int (pos version) ∷ more) ∷ [])

-- the query shows a row of that version
abbrev pub ShowsVersion : ℕ → State → State → Type 0
ShowsVersion version old new = (rows : List Row) × Shown meta_query [] old new rows × HasVersion version rows

-- the number that a version is shown by
abbrev pub version_number : Version → ℕ
version_number First = 1
version_number Second = 2

abbrev pub IsLater : (ℕ → Type 0) → Type 0
IsLater Is = (version : ℕ) × (2 < version) × Is version

-- neither the first version nor the second, nor a later one
abbrev pub HasNoVersion : List Row → Type 0
HasNoVersion rows = ¬ HasVersion 1 rows × ¬ HasVersion 2 rows × ¬ IsLater (λ version. HasVersion version rows)

-- why the rows of `meta` are refused
abbrev pub IsRefusedRows : List Row → RefusalKind → Type 0
IsRefusedRows rows OutOfMemory = ⊤
IsRefusedRows rows NewerSchema = IsLater (λ version. HasVersion version rows)
IsRefusedRows rows NotAnArchive = HasNoVersion rows
IsRefusedRows rows _ = ⊥

-- the query fails, and whether a table or a column is missing
abbrev pub FailsLacking : Bool → State → State → Type 0
FailsLacking lacking old new = (e : Error) × FailsToQuery meta_query [] old new e × (tells_no_archive e ≡ lacking)

-- why a store is refused
abbrev pub IsRefusedStore : State → State → RefusalKind → Type 0
IsRefusedStore old new OutOfMemory = ⊤
IsRefusedStore old new Storage = FailsLacking false old new
IsRefusedStore old new NewerSchema = IsLater (λ version. ShowsVersion version old new)
IsRefusedStore old new NotAnArchive = FailsLacking true old new
    ⊎ ((rows : List Row) × Shown meta_query [] old new rows × HasNoVersion rows)
IsRefusedStore old new _ = ⊥
