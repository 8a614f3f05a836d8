use Rattle.std.proofs.Common.{◌≡◌, ◌++◌, drop}
use Rattle.std.specs.List.{filter, flat_map}
use Rattle.import_definitions.specs.Nodes.{trees_at}
use Rattle.import_definitions.specs.Roots.{is_kept, kept}
use Rattle.import_definitions.specs.Reports.{said_of_root, said_of_roots}
use Rattle.import_definitions.proofs.roots.sift.Given as goal

abbrev pub invariant-loop-node : goal.invariant-loop-node
invariant-loop-node l = record {
  count : l.at ≡ l.node-index;
  kept : trees_at l.found.items ++ filter (is_kept (trees_at l.nodes)) (trees_at (drop l.node-index l.nodes))
      ≡ kept (trees_at l.nodes);
  report : l.report.items ++ flat_map (said_of_root (trees_at l.nodes)) (trees_at (drop l.node-index l.nodes))
      ≡ l.fn.report.items ++ said_of_roots (trees_at l.nodes);
}
