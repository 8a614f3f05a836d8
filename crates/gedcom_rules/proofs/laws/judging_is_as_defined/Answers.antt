use Rattle.gedcom_rules.proofs.Judged.{judged}
use Rattle.gedcom_rules.proofs.Runs.{progress-push}
use Rattle.gedcom_rules.proofs.laws.judging_is_as_defined.Goals as goal

pub returns-clause-piece : goal.returns-clause-piece
returns-clause-piece c = judged

pub returns-clause-line : goal.returns-clause-line
returns-clause-line c = progress-push
