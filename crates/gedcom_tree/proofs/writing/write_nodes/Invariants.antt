use Rattle.std.proofs.Common.{◌++◌, drop, string_bytes}
use Rattle.std.specs.List.{flat_map}
use Rattle.gedcom_tree.specs.Flat.{flats}
use Rattle.gedcom_tree.specs.Text.{node_text, line_text, trailer, IsLow}
use Rattle.gedcom_tree.proofs.Handing.{Going}
use Rattle.gedcom_tree.proofs.writing.write_nodes.Given as goal

abbrev pub invariant-loop-node : goal.invariant-loop-node
invariant-loop-node g l = record {
  going : Going (g.W.Write.contents l.fn.writer) (g.W.Write.contents l.writer)
      (flat_map node_text (flats 0 l.nodes) ++ line_text trailer) (string_bytes l.out)
      (flat_map node_text (flats 0 (drop l.node-index l.nodes)) ++ line_text trailer);
  low : IsLow (flats 0 (drop l.node-index l.nodes));
}
