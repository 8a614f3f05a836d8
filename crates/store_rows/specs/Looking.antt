-- What a look at single rows of settled tables answers, and what it leaves.
use Rattle.std.specs.Prelude.{◌≡◌, ◌⊎◌, Result, IfOk, IfErr}
use Rattle.sqlite.specs.State.{State, HasCleanDisk}
use Rattle.record_text.specs.declared.refusal.RefusalKind.{RefusalKind}
use Rattle.record_text.specs.declared.refusal.RefusalKind.TheVariants.{BadStored}
use Rattle.archive_state.specs.Content.{Content}
use Rattle.store_tables.specs.Calls.{Settled, LeavesOnly}
use Rattle.store_tables.specs.Looking.{IsFailure}
use Rattle.store_tables.specs.Rows.{Rows}
use Rattle.store_rows.specs.Meaning.{Means, AreReadable}

-- what is answered is so of the content that the rows mean; the rows stay, now and after a crash; it is refused where
-- memory was refused or the database failed, and with 40 where not all rows can be read
pub record Sees {A : Type 0} (Is : Content → A → Type 0) (old new : State)
    (result : Result A RefusalKind) : Type 0 where
  pub read : HasCleanDisk new → IfOk result (λ (a : A). (rows : Rows) → Settled old rows → (c : Content)
      → Means rows c → Is c a)
  pub same : HasCleanDisk new → IfOk result (λ (_ : A). (rows : Rows) → Settled old rows → Settled new rows)
  pub refused : HasCleanDisk new → IfErr result (λ kind. (rows : Rows) → Settled old rows → IsFailure kind
      ⊎ ((kind ≡ BadStored) × ¬ (AreReadable rows)))
  pub crash : HasCleanDisk new → (rows : Rows) → Settled old rows → LeavesOnly new rows
  pub clean : HasCleanDisk new → HasCleanDisk old

-- the same, where the rows keep something of the content
pub record SeesBy {A : Type 0} (Keeps : Rows → Content → Type 0) (Is : Content → A → Type 0) (old new : State)
    (result : Result A RefusalKind) : Type 0 where
  pub read : HasCleanDisk new → IfOk result (λ (a : A). (rows : Rows) → Settled old rows → (c : Content)
      → Means rows c → Keeps rows c → Is c a)
  pub same : HasCleanDisk new → IfOk result (λ (_ : A). (rows : Rows) → Settled old rows → Settled new rows)
  pub refused : HasCleanDisk new → IfErr result (λ kind. (rows : Rows) → Settled old rows → IsFailure kind
      ⊎ ((kind ≡ BadStored) × ¬ (AreReadable rows)))
  pub crash : HasCleanDisk new → (rows : Rows) → Settled old rows → LeavesOnly new rows
  pub clean : HasCleanDisk new → HasCleanDisk old
