use Rattle.node_writing.proofs.Parts.{family_parts}
use Rattle.node_writing.proofs.laws.a_family_is_written_in_parts.Goals as goal

pub returns : goal.returns
returns c = family_parts
