use Rattle.node_writing.proofs.Parts.{event_parts}
use Rattle.node_writing.proofs.laws.an_event_is_written_in_parts.Goals as goal

pub returns : goal.returns
returns c = event_parts
