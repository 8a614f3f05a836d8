use Rattle.std.proofs.Common.{◌∙◌, ◌++◌, ℕ, List, [], Some, ap, codes, string_bytes, sym}
use Rattle.gedcom_line.specs.Value.{Text}
use Rattle.node_writing.specs.Nodes.{Mark}
use Rattle.node_writing.proofs.Pages.{nodes-bare}
use Rattle.node_writing.proofs.Appending.{then_nodes_below}
use Rattle.node_writing.proofs.heads.push_submitter.Goals as goal
use Rattle.list_laws.proofs.Outcomes.{ok_then}

pub returns : goal.returns
returns c =
    let submitter : Mark = record { xref = Some (codes "@SOCIETY@"); tag = codes "SUBM"; value = Text [] } in
    let first = c.in_ok-push_text.ensures
    ∙ ap (λ (x : List ℕ). string_bytes c.args.out.now ++ x) (sym (nodes-bare 0 submitter)) in
    ok_then c.push_leaf.result (λ e. e ∙ then_nodes_below 0 _ _ submitter _ first) c.push_leaf.ensures
