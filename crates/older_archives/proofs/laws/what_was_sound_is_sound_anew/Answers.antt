use Rattle.older_archives.proofs.SoundAnew.{anew_sound}
use Rattle.older_archives.proofs.laws.what_was_sound_is_sound_anew.Goals as goal

pub returns : goal.returns
returns c = anew_sound
