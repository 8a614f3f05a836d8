-- What an accepted command leaves is what its row leaves, its batch of rows, or its forest.
use Rattle.std.proofs.Common.{ℕ}
use Rattle.std.specs.Prelude.{Option, None, Ok, Err}
use Rattle.archive_state.specs.Content.{Content}
use Rattle.commands.specs.declared.command.Command.{Command}
use Rattle.commands.specs.declared.command.Command.TheVariants as command
use Rattle.merging.specs.Steps.{RowStep}
use Rattle.archive_steps.specs.Steps.{row_step}
use Rattle.archive_steps.specs.Words.{IsUtf8Row}
use Rattle.archive_steps.proofs.Following.{Follows, row_follows}
use Rattle.entry_batches.proofs.Commands.{batch_follows}
use Rattle.imports.proofs.Commands.{import_follows}
use Rattle.archive_core.specs.Steps.{placed, step}
use Rattle.archive_core.specs.Words.{HasUtf8Words}

-- where a refusal is does not matter
placed_follows : (W : Type 0) (c : Content) (place : Option ℕ) (s : RowStep) → Follows W c s
    → Follows W c (placed place s)
placed_follows W c place (Ok done) h = h
placed_follows W c place (Err e) h = tt

pub step_follows : (c : Content) (k : Command) → Follows (HasUtf8Words k) c (step c k)
step_follows c (command.Row row) = placed_follows (IsUtf8Row row) c None (row_step c row) (row_follows c row)
step_follows c (command.Entries source rows) = batch_follows c source rows
step_follows c (command.Import forest) = import_follows c forest
