-- A batch as the commands of its rows, one after the other. A rule of our own.
use Rattle.std.specs.Prelude.{ℕ, ◌+◌, List, [], ◌∷◌, length, Some, None, Result, Ok}
use Rattle.record_text.specs.declared.refusal.Refusal.{Refusal}
use Rattle.receipts.specs.declared.answer.Answer.{Answer}
use Rattle.archive_state.specs.Content.{Content}
use Rattle.commands.specs.declared.entry_row.EntryRow.{EntryRow}
use Rattle.command_checks.specs.Checks.{demanded_at}
use Rattle.command_checks.specs.declared.kinds.Demand.TheVariants as demand
use Rattle.archive_steps.specs.Steps.{new_entry}
use Rattle.entry_batches.specs.Batches.{first_number}
use Rattle.entry_batches.specs.Placed.{Step, onward, placed}

-- the commands of these rows, of which the first has that place, each on what the one before has left
abbrev pub one_by_one : ℕ → ℕ → Content → List EntryRow → Result Content Refusal
one_by_one source place c [] = Ok c
one_by_one source place c (row ∷ rows) =
    onward (placed (Some place) (new_entry c source row))
    (λ (done : Content × Answer). one_by_one source (place + 1) done.0 rows)

-- the same after a look at the source, with the answer of a batch
abbrev pub all_commands : Content → ℕ → List EntryRow → Step
all_commands c source rows =
    onward (placed None (demanded_at c demand.Source source)) (λ _.
    onward (one_by_one source 1 c rows) (λ after.
    onward (placed None (first_number c.next)) (λ n.
    Ok (after, record { first = n; count = length rows }))))
