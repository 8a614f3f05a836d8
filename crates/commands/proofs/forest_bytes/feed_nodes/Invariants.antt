use Rattle.std.proofs.Common.{◌++◌, drop}
use Rattle.std.specs.List.{flat_map}
use Rattle.gedcom_tree.specs.Flat.{flats}
use Rattle.gedcom_tree.specs.Text.{IsLow, line_text, node_text, trailer}
use Rattle.commands.proofs.Feeding.{Feeds}
use Rattle.commands.proofs.forest_bytes.feed_nodes.Given as goal

-- what is fed and what is left is all
abbrev pub invariant-loop-node : goal.invariant-loop-node
invariant-loop-node l = record {
  fed : Feeds l.fn.hasher l.hasher (flat_map node_text (flats 0 (drop l.node-index l.nodes)) ++ line_text trailer)
      (flat_map node_text (flats 0 l.nodes) ++ line_text trailer);
  low : IsLow (flats 0 (drop l.node-index l.nodes));
}
