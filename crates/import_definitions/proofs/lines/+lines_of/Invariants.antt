use Rattle.std.proofs.Common.{◌≡◌, ◌≤◌, ◌++◌, drop}
use Rattle.stored_lines.specs.Tree.{forest_of}
use Rattle.stored_lines.specs.Levels.{forest_levels}
use Rattle.import_definitions.specs.Nodes.{trees_of, HaveLines}
use Rattle.import_definitions.specs.Lines.{place_in, lines_below}
use Rattle.import_definitions.specs.Reports.{dangling}
use Rattle.import_definitions.proofs.lines.+lines_of.Given as goal

abbrev pub invariant-loop-node : goal.invariant-loop-node
invariant-loop-node l = record {
  have : HaveLines (forest_of (trees_of (drop l.node-index l.nodes)));
  low : forest_levels (forest_of (trees_of (drop l.node-index l.nodes))) ≤ 98;
  fewer : forest_levels (forest_of (trees_of (drop l.node-index l.nodes))) ≤ forest_levels
      (forest_of (trees_of l.nodes));
  lines : l.lines.items ++ lines_below (place_in l.roots) (forest_of (trees_of (drop l.node-index l.nodes)))
      ≡ lines_below (place_in l.roots) (forest_of (trees_of l.nodes));
  report : l.report.items ++ dangling (place_in l.roots) (forest_of (trees_of (drop l.node-index l.nodes)))
      ≡ l.fn.report.items ++ dangling (place_in l.roots) (forest_of (trees_of l.nodes));
}

abbrev pub decreases-lines_of : goal.decreases-lines_of
decreases-lines_of l = forest_levels (forest_of (trees_of l.nodes.now))
