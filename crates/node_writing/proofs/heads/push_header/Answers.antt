use Rattle.std.proofs.Common.{◌∙◌}
use Rattle.node_writing.proofs.Appending.{then_nodes}
use Rattle.node_writing.proofs.heads.push_header.Goals as goal
use Rattle.list_laws.proofs.Outcomes.{ok_then}

pub returns : goal.returns
returns c = ok_then c.push_submitter.result (λ e. e ∙ then_nodes 0 _ _ _ _ c.in_ok-push_file_head.ensures)
    c.push_submitter.ensures
