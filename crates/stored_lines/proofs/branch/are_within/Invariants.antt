use Rattle.std.proofs.Common.{◌≤◌, take}
use Rattle.stored_lines.specs.Tree.{forest_of}
use Rattle.stored_lines.specs.Levels.{forest_levels}
use Rattle.stored_lines.proofs.branch.are_within.Given as goal

abbrev pub invariant-branches : goal.invariant-branches
invariant-branches l = forest_levels (forest_of (take l.branch-index l.branches)) ≤ l.levels
