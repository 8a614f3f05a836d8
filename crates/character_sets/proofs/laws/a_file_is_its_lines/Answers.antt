use Rattle.character_sets.proofs.FirstLines.{whole}
use Rattle.character_sets.proofs.laws.a_file_is_its_lines.Goals as goal

pub returns : goal.returns
returns c = whole
