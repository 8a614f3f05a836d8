use Rattle.tasks.proofs.laws.what_is_hidden_changes_no_room.Goals as goal

pub returns : goal.returns
returns c = λ a b today s t differ shown other.
    c.what_is_hidden_changes_nothing.ensures a b today s t differ.first differ.second differ.alike shown.masked
    other.masked
