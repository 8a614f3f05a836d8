use Rattle.calendar_days.proofs.Consecutive.{number_next, number_one, number_every}
use Rattle.calendar_days.proofs.laws.each_day_has_one_number.Goals as goal

pub returns-clause-next : goal.returns-clause-next
returns-clause-next c = number_next

pub returns-clause-one : goal.returns-clause-one
returns-clause-one c = number_one

pub returns-clause-every : goal.returns-clause-every
returns-clause-every c = number_every
