use Rattle.node_writing.proofs.Parts.{person_parts}
use Rattle.node_writing.proofs.laws.a_person_is_written_in_parts.Goals as goal

pub returns : goal.returns
returns c = person_parts
