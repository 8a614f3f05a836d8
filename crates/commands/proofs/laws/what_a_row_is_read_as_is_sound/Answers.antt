use Rattle.commands.proofs.Heard.{read_sound}
use Rattle.commands.proofs.laws.what_a_row_is_read_as_is_sound.Goals as goal

pub returns : goal.returns
returns c = read_sound
