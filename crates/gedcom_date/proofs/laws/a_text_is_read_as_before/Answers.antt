use Rattle.std.proofs.Common.{inl}
use Rattle.gedcom_date.proofs.Earlier.{some_before, one_before}
use Rattle.gedcom_date.proofs.laws.a_text_is_read_as_before.Goals as goal

pub returns-clause-one : goal.returns-clause-one
returns-clause-one c = (some_before, one_before)

pub returns-clause-same : goal.returns-clause-same
returns-clause-same c = λ text f fits. inl fits.0
