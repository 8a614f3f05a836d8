use Rattle.std.proofs.Common.{◌∙◌, arith}
use Rattle.gedcom_tree.specs.Text.{line_text, trailer}
use Rattle.gedcom_tree.proofs.Handing.{node_last}
use Rattle.commands.proofs.Feeding.{written_last}
use Rattle.commands.proofs.forest_bytes.push_nodes.Goals as goal

pub returns : goal.returns
returns c = c.in_ok-push_str.ensures.bytes ∙ written_last _ _ _ c.loop-node.invariant.written
    (node_last c.args.nodes.now c.loop-node.node-index (line_text trailer) (omega arith))
