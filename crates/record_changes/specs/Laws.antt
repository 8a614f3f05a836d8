-- What holds of one record changed.
use Rattle.std.specs.Prelude.{ℕ, ◌≡◌, ◌≢◌, Some, None}
use Rattle.std.specs.FinMap.{get}
use Rattle.receipts.specs.declared.answer.Answer.{Answer}
use Rattle.record_kinds.specs.declared.record.Record.{Record}
use Rattle.archive_state.specs.Content.{Content}
use Rattle.command_checks.specs.Numbers.{Draws, UsesNoneAgain}
use Rattle.record_changes.specs.Steps.{replaced}

-- but for the record of one number, which stays there or becomes another, all is as it was, and nothing is made
pub record ChangesOnly (c : Content) (n : ℕ) (done : Content × Answer) : Type 0 where
  pub others : (k : ℕ) → k ≢ n → get done.0.records k ≡ get c.records k
  pub there : get done.0.records n ≢ None
  pub next : done.0.next ≡ c.next
  pub receipts : done.0.receipts ≡ c.receipts
  pub slips : done.0.slips ≡ c.slips
  -- so no number is drawn, and none is used twice
  pub draws : Draws c done.1 done.0
  pub again : UsesNoneAgain c done.0

-- another record in place of one that is there
abbrev pub LeavesAllElse : Type 0
LeavesAllElse = (c : Content) (n : ℕ) (old r : Record) → get c.records n ≡ Some old → ChangesOnly c n (replaced c n r)
