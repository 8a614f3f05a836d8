use Rattle.html_answers.proofs.Alike.{by_records}
use Rattle.html_answers.proofs.laws.the_records_decide.Goals as goal

pub returns : goal.returns
returns c = by_records c.the_answers_decide.ensures
