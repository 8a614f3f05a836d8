use Rattle.date_spans.proofs.DaysMet.{met_day}
use Rattle.date_spans.proofs.laws.a_day_that_a_date_may_mean_is_met.Goals as goal

pub returns : goal.returns
returns c = met_day
