use Rattle.stored_lines.proofs.Levels.{all_over, levels-more}
use Rattle.plain_export.proofs.lines.are_within.Goals as goal

pub returns-then-not-is_within : goal.returns-then-not-is_within
returns-then-not-is_within c = all_over c.args.lines.now c.lines.line-index c.line-item.result c.args.levels
    c.is_within.result c.lines-test.true c.line-item.is c.if-not-is_within.true c.is_within.ensures.1

pub lines-preserved : goal.lines-preserved
lines-preserved c = levels-more c.args.lines.now c.lines.line-index c.line-item.result c.args.levels
    c.lines-test.true c.line-item.is c.lines.invariant (c.is_within.ensures.0 c.if-not-is_within.false)
