use Rattle.date_spans.proofs.DaysMet.{own_lo, own_hi}
use Rattle.date_spans.proofs.laws.a_span_meets_its_own_days.Goals as goal

pub returns-clause-first : goal.returns-clause-first
returns-clause-first c = own_lo

pub returns-clause-last : goal.returns-clause-last
returns-clause-last c = own_hi
