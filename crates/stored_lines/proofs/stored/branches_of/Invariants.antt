use Rattle.std.proofs.Common.{◌≡◌, ◌≤◌, drop, length}
use Rattle.stored_lines.specs.Growing.{grown}
use Rattle.stored_lines.proofs.stored.branches_of.Given as goal

abbrev pub invariant-lines : goal.invariant-lines
invariant-lines l = record {
  grown_so_far : l.branches.items ≡ grown (drop l.at l.lines);
  in_range : l.at ≤ length l.lines;
}

abbrev pub decreases-lines : goal.decreases-lines
decreases-lines l = l.at
