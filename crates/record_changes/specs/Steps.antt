-- What one record changed leaves.
use Rattle.std.specs.Prelude.{ℕ, Result}
use Rattle.std.specs.FinMap.{insert}
use Rattle.record_text.specs.declared.refusal.RefusalKind.{RefusalKind}
use Rattle.receipts.specs.declared.answer.Answer.{Answer}
use Rattle.record_kinds.specs.declared.record.Record.{Record}
use Rattle.archive_state.specs.Content.{Content}

-- what an accepted command leaves, and its answer; or its refusal
abbrev pub Step : Type 0
Step = Result (Content × Answer) RefusalKind

-- all as it was, and nothing made
abbrev pub as_before : Content → Content × Answer
as_before c = (c, record { first = 0; count = 0 })

-- another record at a number, and nothing made
abbrev pub replaced : Content → ℕ → Record → Content × Answer
replaced c n r = (record c { records = insert c.records n r }, record { first = 0; count = 0 })
