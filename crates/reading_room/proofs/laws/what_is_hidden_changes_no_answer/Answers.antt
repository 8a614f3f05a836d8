use Rattle.reading_room.proofs.Alike.{by_records}
use Rattle.reading_room.proofs.laws.what_is_hidden_changes_no_answer.Goals as goal

pub returns : goal.returns
returns c a b today s t input one two i j alike k l =
    by_records c.what_is_shown_decides.ensures s.records t.records input one two
    (c.what_is_hidden_changes_nothing.ensures a b today s t i j alike k l)
