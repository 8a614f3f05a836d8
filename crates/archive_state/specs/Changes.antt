-- What a request or an import changes.
use Rattle.std.specs.Prelude.{ℕ, List, Option}
use Rattle.receipts.specs.declared.answer.Answer.{Answer}
use Rattle.archive_state.specs.declared.changes.Numbered.{Numbered}
use Rattle.archive_state.specs.declared.changes.Kept.{Kept}
use Rattle.archive_state.specs.declared.changes.SlipChange.{SlipChange}

-- new records with their numbers, and the next number after them
pub record Batch : Type 0 where
  pub records : List Numbered
  pub next : ℕ

-- numbers with their new records; numbers whose records are removed; the next number; the answer; what is kept of the
-- request, where it was accepted anew; the slip that is made or undone
pub record Changes : Type 0 where
  pub puts : List Numbered
  pub removals : List ℕ
  pub next : ℕ
  pub answer : Answer
  pub kept : Option Kept
  pub slip : Option SlipChange
