-- What merge and undo make of an archive, or the refusal that they get: each number in the order of its field, then
-- what is the command's own, and last whether a number is left. Rules of our own.
use Rattle.std.specs.Prelude.{ℕ, ◌+◌, not, ◌==◌, Option, Some, None, Result, Ok, Err}
use Rattle.std.specs.FinMap.{get}
use Rattle.record_text.specs.declared.refusal.RefusalKind.{RefusalKind}
use Rattle.record_text.specs.declared.refusal.RefusalKind.TheVariants.{
  NoSuch,
  WrongKind,
  SamePerson,
  MergeWithinFamily,
  ChangedSince,
  AlreadyUndone,
}
use Rattle.receipts.specs.declared.answer.Answer.{Answer}
use Rattle.record_kinds.specs.declared.record.Record.{Record}
use Rattle.archive_state.specs.Content.{Content}
use Rattle.archive_state.specs.Slips.{Slip}
use Rattle.commands.specs.Rows.{and_then}
use Rattle.command_checks.specs.Checks.{need, person_at, next_free}
use Rattle.merging.specs.Comparing.{is_now}
use Rattle.merging.specs.Merges.{is_clash, with_merge, with_undo}

-- what an accepted command of one row leaves, and its answer; or its refusal, which has no place
abbrev pub RowStep : Type 0
RowStep = Result (Content × Answer) RefusalKind

-- a number without a slip is that of a record, or of nothing
abbrev pub no_slip : Option Record → Result Slip RefusalKind
no_slip None = Err NoSuch
no_slip (Some r) = Err WrongKind

abbrev pub slip_in : Option Slip → Option Record → Result Slip RefusalKind
slip_in (Some s) r = Ok s
slip_in None r = no_slip r

abbrev pub slip_at : Content → ℕ → Result Slip RefusalKind
slip_at c n = slip_in (get c.slips n) (get c.records n)

abbrev pub merge_step : Content → ℕ → ℕ → RowStep
merge_step c keep gone =
    and_then (person_at c keep) (λ k.
    and_then (person_at c gone) (λ g.
    and_then (need (not (keep == gone)) SamePerson) (λ _.
    and_then (need (not (is_clash keep gone c.records)) MergeWithinFamily) (λ _.
    and_then (next_free c) (λ n.
    Ok (with_merge keep gone c (n + 1), record { first = n; count = 1 }))))))

abbrev pub undo_step : Content → ℕ → RowStep
undo_step c n =
    and_then (slip_at c n) (λ s.
    and_then (need (not s.is_undone) AlreadyUndone) (λ _.
    and_then (need (is_now c.records s.changes) ChangedSince) (λ _.
    Ok (with_undo n s c, record { first = 0; count = 0 }))))
