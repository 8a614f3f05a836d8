use Rattle.date_spans.proofs.KeptSpans.{told_by_spans}
use Rattle.date_spans.proofs.laws.kept_spans_tell_what_is_between.Goals as goal

pub returns : goal.returns
returns c = told_by_spans
