use Rattle.room_requests.proofs.arriving.answer_so_far.Goals as goal

pub returns-in_ok-answer-in-Some-clause-answered : goal.returns-in_ok-answer-in-Some-clause-answered
returns-in_ok-answer-in-Some-clause-answered g c honest rest =
    let begins = rw c.in-Some.is at c.in_ok-head_so_far.ensures in
    (c.in-Some.shown, begins rest, c.in_ok-answer-in-Some.ensures honest)
