use Rattle.std.proofs.Common.{rules}
use Rattle.field_rows.proofs.Spaces.{back_on, back_there}
use Rattle.field_rows.proofs.normal.until_word.Goals as goal

pub loop-front-preserved : goal.loop-front-preserved
loop-front-preserved c = (
  search rules,
  back_on c.args.text.now c.loop-front.rest.now c.in-Some.front.now c.in-Some.ensures c.loop-front.invariant.1,
)

pub returns : goal.returns
returns c = back_there c.args.text.now c.loop-front.rest.now c.in_default.ensures c.loop-front.invariant.1
