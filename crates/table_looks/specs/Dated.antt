-- What a look by days answers of settled tables, and what it leaves. Rules of our own.
use Rattle.std.specs.Prelude.{Result, IfOk, IfErr}
use Rattle.sqlite.specs.State.{State, HasCleanDisk}
use Rattle.record_text.specs.declared.refusal.RefusalKind.{RefusalKind}
use Rattle.archive_state.specs.Content.{Content}
use Rattle.store_tables.specs.Calls.{Settled, LeavesOnly}
use Rattle.store_tables.specs.Looking.{IsFailure}
use Rattle.store_tables.specs.Rows.{Rows}
use Rattle.store_rows.specs.Meaning.{Means}
use Rattle.store_rows.specs.Spans.{IsDated, KeepsSpans}

-- of rows of the second version, what is answered is so of the content that they mean, where they have the spans of its
-- records; the rows stay, now and after a crash; it is refused where memory was refused or the database failed
pub record SeesDated {A : Type 0} (Is : Content → A → Type 0) (old new : State)
    (result : Result A RefusalKind) : Type 0 where
  pub read : HasCleanDisk new → IfOk result (λ (a : A). (rows : Rows) → Settled old rows → IsDated rows → (c : Content)
      → Means rows c → KeepsSpans rows c → Is c a)
  pub same : HasCleanDisk new → IfOk result (λ (_ : A). (rows : Rows) → Settled old rows → Settled new rows)
  pub refused : HasCleanDisk new → IfErr result (λ kind. (rows : Rows) → Settled old rows → IsFailure kind)
  pub crash : HasCleanDisk new → (rows : Rows) → Settled old rows → LeavesOnly new rows
  pub clean : HasCleanDisk new → HasCleanDisk old
