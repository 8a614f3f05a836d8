use Rattle.calendar_days.proofs.Civil.{civil_number}
use Rattle.calendar_days.proofs.Consecutive.{julian_rule, julian_rule_both_ways, republican_civil}
use Rattle.calendar_days.proofs.Republicans.{republican_rule}
use Rattle.calendar_days.proofs.laws.the_formulas_count.Goals as goal

pub returns-clause-gregorian : goal.returns-clause-gregorian
returns-clause-gregorian c = civil_number

pub returns-clause-julian : goal.returns-clause-julian
returns-clause-julian c = julian_rule

pub returns-clause-both_ways : goal.returns-clause-both_ways
returns-clause-both_ways c = julian_rule_both_ways

pub returns-clause-republican : goal.returns-clause-republican
returns-clause-republican c = λ n m d range has.
    republican_rule n m d range.0 range.1 has.0.0 has.0.1 has.1.0

pub returns-clause-civil : goal.returns-clause-civil
returns-clause-civil c = λ n m d range has. republican_civil n m d range has
