use Rattle.std.proofs.Common.{◌≡◌, ◌++◌, drop, string_bytes}
use Rattle.stored_lines.specs.Tree.{forest_of}
use Rattle.import_definitions.specs.Nodes.{tree_of, trees_of}
use Rattle.import_reports.specs.Heads.{forest_text, next_level, tree_text}
use Rattle.import_reports.proofs.heads.+push_tree.Given as goal

abbrev pub invariant-loop-child : goal.invariant-loop-child
invariant-loop-child l = string_bytes l.out
    ++ forest_text (next_level l.level) (forest_of (trees_of (drop l.child-index l.child-items)))
    ≡ string_bytes l.fn.out ++ tree_text l.level (tree_of l.node)
