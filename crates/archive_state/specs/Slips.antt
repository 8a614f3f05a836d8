-- What is kept of a merge.
use Rattle.std.specs.Prelude.{ℕ, List, Bool}
use Rattle.archive_state.specs.declared.slip.Change.{Change}

-- the person that stays, the person that is no more, old and new record of each number that changed, ascending, and
-- whether it was undone
pub record Slip : Type 0 where
  pub keep : ℕ
  pub gone : ℕ
  pub changes : List Change
  pub is_undone : Bool
