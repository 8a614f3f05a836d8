-- What a command makes of an archive, or the refusal that it gets, with the place of it. Rules of our own.
use Rattle.std.specs.Prelude.{None}
use Rattle.archive_state.specs.Content.{Content}
use Rattle.commands.specs.declared.command.Command.{Command}
use Rattle.commands.specs.declared.command.Command.TheVariants as command
use Rattle.archive_steps.specs.Steps.{row_step}
use Rattle.entry_batches.specs.Batches.{batch_step}
use Rattle.imports.specs.Imports.{import_step}
pub use Rattle.entry_batches.specs.Placed.{Step, refused_at, placed}

-- a command of one row is refused at no place; a batch of register entries at that of a row, an import at that of a
-- line of the file, and both at none
abbrev pub step : Content → Command → Step
step c (command.Row row) = placed None (row_step c row)
step c (command.Entries source rows) = batch_step c source rows
step c (command.Import forest) = import_step c forest
