use Rattle.masking.proofs.Showing.{own_event, family_event}
use Rattle.masking.proofs.laws.events_of_the_living_are_gone.Goals as goal

pub returns-clause-own : goal.returns-clause-own
returns-clause-own c = own_event

pub returns-clause-family : goal.returns-clause-family
returns-clause-family c = family_event
