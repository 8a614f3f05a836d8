use Rattle.std.proofs.Common.{◌≤◌, take}
use Rattle.stored_lines.specs.Tree.{forest_of}
use Rattle.stored_lines.specs.Levels.{forest_levels}
use Rattle.plain_export.proofs.lines.are_within.Given as goal

abbrev pub invariant-lines : goal.invariant-lines
invariant-lines l = forest_levels (forest_of (take l.line-index l.lines)) ≤ l.levels
