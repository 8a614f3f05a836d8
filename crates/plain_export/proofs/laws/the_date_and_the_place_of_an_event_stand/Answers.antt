use Rattle.std.proofs.Common.{refl}
use Rattle.plain_export.proofs.Standing.{place_stands}
use Rattle.plain_export.proofs.laws.the_date_and_the_place_of_an_event_stand.Goals as goal

pub returns-clause-date : goal.returns-clause-date
returns-clause-date c = λ m a more e. refl

pub returns-clause-place : goal.returns-clause-place
returns-clause-place c = place_stands
