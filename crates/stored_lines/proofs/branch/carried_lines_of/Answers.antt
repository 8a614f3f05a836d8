use Rattle.std.proofs.Common.{◌≤◌, arith}
use Rattle.stored_lines.specs.Tree.{forest_of}
use Rattle.stored_lines.specs.Levels.{forest_levels}
use Rattle.stored_lines.proofs.Levels.{levels-one}
use Rattle.stored_lines.proofs.branch.carried_lines_of.Goals as goal

pub carried_line_of-requires : goal.carried_line_of-requires
carried_line_of-requires c =
    let few : forest_levels (forest_of c.args.branches.now) ≤ 99 = c.requires in
    omega (
      arith,
      levels-one c.args.branches.now c.branches.branch-index c.branch-item.result c.branches-test.true
          c.branch-item.is,
    )
