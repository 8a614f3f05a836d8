use Rattle.entry_batches.proofs.Commands.{batch_sound}
use Rattle.entry_batches.proofs.laws.a_batch_keeps_an_archive_sound.Goals as goal

pub returns : goal.returns
returns c = batch_sound
