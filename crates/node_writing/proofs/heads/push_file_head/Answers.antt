use Rattle.std.proofs.Common.{◌∙◌, ◌++◌, ℕ, List, ap, codes, string_bytes, sym}
use Rattle.node_writing.proofs.Appending.{pointer_node, then_nodes, then_nodes_below}
use Rattle.node_writing.proofs.heads.push_file_head.Goals as goal
use Rattle.list_laws.proofs.Outcomes.{ok_then}

pub returns : goal.returns
returns c =
    let named = c.in_ok-write_line.ensures.ok
    ∙ ap (λ (x : List ℕ). string_bytes c.push_leaf-2.new.out ++ x)
    (sym (pointer_node 1 (codes "SUBM") (codes "@SOCIETY@"))) in
    ok_then c.push_form.result
    (λ e. e ∙ then_nodes 1 _ _ _ _ named ∙ then_nodes 1 _ _ _ _ c.in_ok-push_leaf-2.ensures
    ∙ then_nodes_below 0 _ _ _ _ c.in_ok-push_leaf.ensures)
    c.push_form.ensures
