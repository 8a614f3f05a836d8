use Rattle.entry_batches.proofs.Commands.{batch_is_commands}
use Rattle.entry_batches.proofs.laws.a_batch_is_the_commands_of_its_rows.Goals as goal

pub returns : goal.returns
returns c = batch_is_commands
