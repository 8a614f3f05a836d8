use Rattle.entry_batches.proofs.Commands.{batch_again}
use Rattle.entry_batches.proofs.laws.a_batch_uses_no_number_again.Goals as goal

pub returns : goal.returns
returns c = batch_again
