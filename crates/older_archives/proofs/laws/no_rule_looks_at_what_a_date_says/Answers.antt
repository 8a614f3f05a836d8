use Rattle.older_archives.proofs.SoundAnew.{redated_sound}
use Rattle.older_archives.proofs.laws.no_rule_looks_at_what_a_date_says.Goals as goal

pub returns : goal.returns
returns c = redated_sound
