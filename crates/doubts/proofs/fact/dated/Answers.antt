use Rattle.date_spans.specs.Spans.{date_in}
use Rattle.doubts.proofs.Dated.{dated_is}
use Rattle.doubts.proofs.fact.dated.Goals as goal

pub returns : goal.returns
returns c = dated_is (date_in c.args.«record».now) c.in_ok-span.span c.in_ok-span.ensures
