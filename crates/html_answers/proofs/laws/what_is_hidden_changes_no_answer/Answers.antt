use Rattle.html_answers.proofs.Alike.{by_records}
use Rattle.html_answers.proofs.laws.what_is_hidden_changes_no_answer.Goals as goal

pub returns : goal.returns
returns c a b today s t society own input one two i j alike k l =
    by_records c.the_answers_decide.ensures s.records t.records society own input one two
    (c.what_is_hidden_changes_nothing.ensures a b today s t i j alike k l)
