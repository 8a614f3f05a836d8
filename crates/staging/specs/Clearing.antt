-- A batch that is removed, commit by commit.
use Rattle.std.specs.Prelude.{ℕ, ◌≡◌, ◌⊎◌, ◌==◌, List, true, Result, OnOk}
use Rattle.std.specs.List.{list_any}
use Rattle.sqlite.specs.State.{State, HasCleanDisk}
use Rattle.sqlite.specs.Tree.{Trees}
use Rattle.store_tables.specs.Calls.{Good, Settled}
use Rattle.store_tables.specs.Rows.{Rows}
use Rattle.store_rows.specs.Writing.{without_all_lines}
use Rattle.staged_rows.specs.Removing.{AreAside, IsSeenAs}
use Rattle.staged_rows.specs.Staging.{AreAllClosed}

-- whatever a crash may leave is good, and has these rows or what a commit makes of them
abbrev pub LeavesEither : State → Rows → Rows → Type 0
LeavesEither s rows after = (t : Trees) → s.may_leave t → Good rows t ⊎ Good after t

-- whatever a crash may leave is good, and the same is seen of it as of these rows
abbrev pub LeavesSeen : State → Rows → Type 0
LeavesSeen s rows = (t : Trees) → s.may_leave t → (other : Rows) × Good other t × IsSeenAs rows other

-- calls that take lines or rows of numbers out, each in one commit: what becomes of settled tables; where these numbers
-- have no record, the same is seen, whatever a crash may leave
pub record Clears {A E : Type 0} (ns : List ℕ) (Is : Rows → Rows → Type 0) (old new : State)
    (result : Result A E) : Type 0 where
  pub done : HasCleanDisk new → OnOk result ((rows : Rows) → Settled old rows
      → (after : Rows) × Settled new after × Is rows after × (AreAside ns rows → IsSeenAs rows after))
  pub crash : HasCleanDisk new → (rows : Rows) → Settled old rows → AreAside ns rows → LeavesSeen new rows
  pub clean : HasCleanDisk new → HasCleanDisk old

-- the lines of a number are fewer, and no line else is: so it is the same where all of them are removed with others
abbrev pub IsThinned : ℕ → Rows → Rows → Type 0
IsThinned n rows after = (ks : List ℕ) → list_any (λ k. k == n) ks ≡ true
    → without_all_lines ks after ≡ without_all_lines ks rows

-- settled tables of which the same is seen as of these rows, and which have only closed batches
abbrev pub IsCleared : State → Rows → Type 0
IsCleared s rows = (after : Rows) × Settled s after × IsSeenAs rows after × AreAllClosed after
