use Rattle.node_writing.proofs.Pages.{page-append}
use Rattle.node_writing.proofs.laws.lines_follow_each_other.Goals as goal

pub returns : goal.returns
returns c = page-append
