use Rattle.character_sets.proofs.Staying.{ends}
use Rattle.character_sets.proofs.laws.no_line_is_joined.Goals as goal

pub returns : goal.returns
returns c = ends
