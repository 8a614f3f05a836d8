use Rattle.date_spans.proofs.DaysMet.{one_span}
use Rattle.date_spans.proofs.laws.a_date_has_one_span.Goals as goal

pub returns : goal.returns
returns c = one_span
