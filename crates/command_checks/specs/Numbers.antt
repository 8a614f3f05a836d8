-- The numbers that a command draws, and those that are used up. Rules of our own.
use Rattle.std.specs.Prelude.{ℕ, ◌+◌, ◌<◌, ◌≤◌, ◌⊎◌, Bool, true, ◌&&◌, ◌==◌, ◌≡◌, ◌≢◌, Some, None, is_none}
use Rattle.std.specs.List.{list_any}
use Rattle.std.specs.FinMap.{get}
use Rattle.archive_state.specs.Content.{Content}
use Rattle.archive_state.specs.Slips.{Slip}
use Rattle.archive_state.specs.declared.slip.Change.{Change}
use Rattle.receipts.specs.declared.answer.Answer.{Answer}

-- a record or a slip has the number
abbrev pub IsTaken : Content → ℕ → Type 0
IsTaken c n = (get c.records n ≢ None) ⊎ (get c.slips n ≢ None)

-- the numbers from the next one of before up to that of after are drawn, each for a record or a slip, and the answer is
-- the first of them with their count; or it is 0 and 0, and none is drawn
abbrev pub Draws : Content → Answer → Content → Type 0
Draws c a after =
    (after.next ≡ c.next + a.count) × ((a.first ≡ c.next) ⊎ ((a.first ≡ 0) × (a.count ≡ 0)))
    × ((n : ℕ) → c.next ≤ n → n < after.next → IsTaken after n)

-- a merge that took away the record of a number: its slip has no new one for it
abbrev pub takes_away : Slip → ℕ → Bool
takes_away s n = list_any (λ (x : Change). x.number == n && is_none x.new) s.changes

-- a number that is used up: it is below the next one, no record has it, and each merge that took its record away was
-- undone, so that none can bring it back
abbrev pub IsUsedUp : Content → ℕ → Type 0
IsUsedUp c n =
    (n < c.next) × (get c.records n ≡ None)
    × ((k : ℕ) (s : Slip) → get c.slips k ≡ Some s → takes_away s n ≡ true → s.is_undone ≡ true)

-- no number is used twice: the next one does not fall, below it no slip is where none was, and what is used up stays so
abbrev pub UsesNoneAgain : Content → Content → Type 0
UsesNoneAgain c after =
    (c.next ≤ after.next) × ((n : ℕ) → n < c.next → get c.slips n ≡ None → get after.slips n ≡ None)
    × ((n : ℕ) → IsUsedUp c n → IsUsedUp after n)
