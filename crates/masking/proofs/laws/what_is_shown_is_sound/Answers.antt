use Rattle.masking.proofs.Whole.{shown_sound}
use Rattle.masking.proofs.laws.what_is_shown_is_sound.Goals as goal

pub returns : goal.returns
returns c = shown_sound
