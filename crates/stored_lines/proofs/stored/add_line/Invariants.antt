use Rattle.std.proofs.Common.{◌≡◌, ◌++◌, ◌+◌, length}
use Rattle.stored_lines.specs.Growing.{fronts, backs}
use Rattle.stored_lines.proofs.stored.add_line.Given as goal

abbrev pub invariant-below : goal.invariant-below
invariant-below l = record {
  taken : l.children.items ++ fronts (l.line.0 + 1) l.branches.items ≡ fronts (l.line.0 + 1) l.fn.branches.items;
  left : backs (l.line.0 + 1) l.branches.items ≡ backs (l.line.0 + 1) l.fn.branches.items;
}

abbrev pub decreases-below : goal.decreases-below
decreases-below l = length l.branches.items
