use Rattle.std.proofs.Common.{◌≡◌, ◌++◌, drop, string_bytes}
use Rattle.stored_lines.specs.Tree.{forest_of}
use Rattle.import_definitions.specs.Nodes.{trees_of}
use Rattle.import_reports.specs.Heads.{below_text}
use Rattle.import_reports.proofs.heads.push_below.Given as goal

abbrev pub invariant-loop-node : goal.invariant-loop-node
invariant-loop-node l = string_bytes l.out ++ below_text (forest_of (trees_of (drop l.node-index l.nodes)))
    ≡ string_bytes l.fn.out ++ below_text (forest_of (trees_of l.nodes))
