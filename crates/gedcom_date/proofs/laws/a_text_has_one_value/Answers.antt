use Rattle.gedcom_date.proofs.Deciding.{some_value}
use Rattle.gedcom_date.proofs.Earlier.{one_said}
use Rattle.gedcom_date.proofs.Written.{again}
use Rattle.gedcom_date.proofs.laws.a_text_has_one_value.Goals as goal

pub returns-clause-some : goal.returns-clause-some
returns-clause-some c = some_value

pub returns-clause-one : goal.returns-clause-one
returns-clause-one c = one_said

pub returns-clause-again : goal.returns-clause-again
returns-clause-again c = again
