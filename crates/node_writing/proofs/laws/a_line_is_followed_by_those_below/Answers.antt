use Rattle.node_writing.proofs.Pages.{page-below}
use Rattle.node_writing.proofs.laws.a_line_is_followed_by_those_below.Goals as goal

pub returns : goal.returns
returns c = page-below
