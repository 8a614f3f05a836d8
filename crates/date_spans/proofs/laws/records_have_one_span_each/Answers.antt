use Rattle.date_spans.proofs.KeptSpans.{one_each}
use Rattle.date_spans.proofs.laws.records_have_one_span_each.Goals as goal

pub returns : goal.returns
returns c = one_each
