use Rattle.std.proofs.Common.{ap}
use Rattle.room_requests.specs.Visits.{answer_to}
use Rattle.room_requests.proofs.laws.what_is_shown_decides.Goals as goal

pub returns : goal.returns
returns c room other input one two same =
    c.the_answers_decide.ensures (answer_to room) (answer_to other) input one two (ap answer_to same)
