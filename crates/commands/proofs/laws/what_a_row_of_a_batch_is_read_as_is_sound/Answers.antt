use Rattle.commands.proofs.Heard.{entry_sound}
use Rattle.commands.proofs.laws.what_a_row_of_a_batch_is_read_as_is_sound.Goals as goal

pub returns : goal.returns
returns c = entry_sound
