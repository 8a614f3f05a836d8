use Rattle.std.proofs.Common.{rules}
use Rattle.field_rows.proofs.Spaces.{word_on, word_there}
use Rattle.field_rows.proofs.normal.from_word.Goals as goal

pub loop-next-preserved : goal.loop-next-preserved
loop-next-preserved c = (
  search rules,
  word_on c.args.text.now c.loop-next.rest.now c.in-Some.next.now c.in-Some.ensures c.loop-next.invariant.1,
)

pub returns : goal.returns
returns c = word_there c.args.text.now c.loop-next.rest.now c.in_default.ensures c.loop-next.invariant.1
