use Rattle.std.proofs.Common.{◌≡◌, ◌+◌, ◌++◌, drop, string_bytes}
use Rattle.std.specs.List.{flat_map}
use Rattle.gedcom_tree.specs.Flat.{flat, flats}
use Rattle.gedcom_tree.specs.Text.{node_text, IsLow}
use Rattle.gedcom_tree.proofs.writing.+push_node.Given as goal

abbrev pub invariant-loop-child : goal.invariant-loop-child
invariant-loop-child l = record {
  written : string_bytes l.out ++ flat_map node_text (flats (l.level + 1) (drop l.child-index l.child-items))
      ≡ string_bytes l.fn.out ++ flat_map node_text (flat l.node l.level);
  low : IsLow (flats (l.level + 1) (drop l.child-index l.child-items));
}
