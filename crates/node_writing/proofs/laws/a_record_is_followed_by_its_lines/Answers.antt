use Rattle.node_writing.proofs.Pages.{record-below}
use Rattle.node_writing.proofs.laws.a_record_is_followed_by_its_lines.Goals as goal

pub returns : goal.returns
returns c = record-below
