use Rattle.stored_lines.proofs.Levels.{all_over, levels-more}
use Rattle.stored_lines.proofs.branch.are_within.Goals as goal

pub returns-then-not-is_within : goal.returns-then-not-is_within
returns-then-not-is_within c = all_over c.args.branches.now c.branches.branch-index c.branch-item.result c.args.levels
    c.is_within.result c.branches-test.true c.branch-item.is c.if-not-is_within.true c.is_within.ensures.1

pub branches-preserved : goal.branches-preserved
branches-preserved c = levels-more c.args.branches.now c.branches.branch-index c.branch-item.result c.args.levels
    c.branches-test.true c.branch-item.is c.branches.invariant (c.is_within.ensures.0 c.if-not-is_within.false)
