use Rattle.plain_export.proofs.Standing.{value_stays}
use Rattle.plain_export.proofs.laws.the_value_of_an_event_stands_or_is_noted.Goals as goal

pub returns : goal.returns
returns c = value_stays
