use Rattle.date_spans.proofs.KeptSpans.{between_wider}
use Rattle.date_spans.proofs.laws.what_is_between_is_between_wider_days.Goals as goal

pub returns : goal.returns
returns c = between_wider
