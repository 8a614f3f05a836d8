use Rattle.gedcom_line.proofs.Elements.{elements_one, written_one, escaped_is}
use Rattle.gedcom_line.proofs.laws.a_text_has_one_written_form.Goals as goal

pub returns-clause-elements : goal.returns-clause-elements
returns-clause-elements c = elements_one

pub returns-clause-one : goal.returns-clause-one
returns-clause-one c = written_one

pub returns-clause-computed : goal.returns-clause-computed
returns-clause-computed c = escaped_is
