use Rattle.visitors.proofs.asking.Asking.hear.Goals as goal

pub returns-in-Some-clause-right : goal.returns-in-Some-clause-right
returns-in-Some-clause-right g c honest =
    let found = c.in_ok-answer_so_far.ensures.answered honest in
    let answered = rw c.in-Some.is at found in
    rw c.as_slice.ensures.value at answered
