use Rattle.std.proofs.Common.{◌≡◌, ◌++◌, drop, string_bytes}
use Rattle.std.specs.List.{flat_map}
use Rattle.gedcom_tree.specs.Flat.{flats}
use Rattle.gedcom_tree.specs.Text.{IsLow, line_text, node_text, trailer}
use Rattle.commands.proofs.forest_bytes.push_nodes.Given as goal

-- what is written and what is left is all
abbrev pub invariant-loop-node : goal.invariant-loop-node
invariant-loop-node l = record {
  written : string_bytes l.out ++ (flat_map node_text (flats 0 (drop l.node-index l.nodes)) ++ line_text trailer)
      ≡ string_bytes l.fn.out ++ (flat_map node_text (flats 0 l.nodes) ++ line_text trailer);
  low : IsLow (flats 0 (drop l.node-index l.nodes));
}
