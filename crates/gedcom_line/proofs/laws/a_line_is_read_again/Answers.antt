use Rattle.gedcom_line.proofs.Whole.{line_same}
use Rattle.gedcom_line.proofs.Again.{line_again}
use Rattle.gedcom_line.proofs.Written.{written_again}
use Rattle.gedcom_line.proofs.laws.a_line_is_read_again.Goals as goal

pub returns-clause-one : goal.returns-clause-one
returns-clause-one c = line_same

pub returns-clause-again : goal.returns-clause-again
returns-clause-again c = written_again

pub returns-clause-made : goal.returns-clause-made
returns-clause-made c = line_again
