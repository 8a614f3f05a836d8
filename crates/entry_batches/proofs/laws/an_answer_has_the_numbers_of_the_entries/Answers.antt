use Rattle.entry_batches.proofs.Commands.{batch_draws}
use Rattle.entry_batches.proofs.laws.an_answer_has_the_numbers_of_the_entries.Goals as goal

pub returns : goal.returns
returns c = batch_draws
