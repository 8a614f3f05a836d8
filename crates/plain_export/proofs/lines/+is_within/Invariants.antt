use Rattle.std.proofs.Common.{◌<◌, take}
use Rattle.stored_lines.specs.Tree.{forest_of}
use Rattle.stored_lines.specs.Levels.{forest_levels}
use Rattle.plain_export.proofs.lines.+is_within.Given as goal

abbrev pub invariant-children : goal.invariant-children
invariant-children l = forest_levels (forest_of (take l.child-index l.child-items)) < l.levels
