use Rattle.std.proofs.Common.{◌≡◌, ◌++◌, ◌+◌, ◌≤◌, ◌∷◌, [], drop, string_bytes}
use Rattle.stored_lines.specs.Tree.{forest_of}
use Rattle.stored_lines.specs.Levels.{forest_levels}
use Rattle.node_writing.specs.Pages.{page}
use Rattle.node_writing.proofs.lines.+push_line.Given as goal

abbrev pub decreases-push_line : goal.decreases-push_line
decreases-push_line g l = goal.size-push_line g l

abbrev pub invariant-children : goal.invariant-children
invariant-children g l = record {
  written : string_bytes l.out ++ page (g.N.Named.names l.index) (l.level + 1) (drop l.child-index l.child-items)
      ≡ string_bytes l.fn.out ++ page (g.N.Named.names l.index) l.level (l.line ∷ []);
  room : l.level + (forest_levels (forest_of l.child-items) + 1) ≤ 255;
}
