use Rattle.std.proofs.Common.{◌∙◌}
use Rattle.node_writing.proofs.Appending.{then_nodes, then_nodes_below}
use Rattle.node_writing.proofs.heads.push_form.Goals as goal
use Rattle.list_laws.proofs.Outcomes.{ok_then}

pub returns : goal.returns
returns c =
    let form = c.in_ok-push_leaf-3.ensures ∙ then_nodes 2 _ _ _ _ c.in_ok-push_leaf-2.ensures
    ∙ then_nodes_below 1 _ _ _ _ c.in_ok-push_leaf.ensures in
    ok_then c.push_leaf-4.result (λ e. e ∙ then_nodes 1 _ _ _ _ form) c.push_leaf-4.ensures
