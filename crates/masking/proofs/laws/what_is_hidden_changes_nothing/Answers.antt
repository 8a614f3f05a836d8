use Rattle.masking.proofs.Alike.{alike_shown}
use Rattle.masking.proofs.laws.what_is_hidden_changes_nothing.Goals as goal

pub returns : goal.returns
returns c = λ a b today s t sound_a sound_b h. alike_shown a b today sound_a sound_b h s t
