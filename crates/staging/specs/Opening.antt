-- What is left where the removal of open batches is refused.
use Rattle.sqlite.specs.State.{State}
use Rattle.store_tables.specs.Calls.{LeavesOnly}
use Rattle.store_tables.specs.Rows.{Rows}
use Rattle.staged_rows.specs.Removing.{IsSeenAs}

-- whatever a crash may leave has the same rows, of which the same is seen as of these
abbrev pub LeavesOne : State → Rows → Type 0
LeavesOne s rows = (other : Rows) × LeavesOnly s other × IsSeenAs rows other
