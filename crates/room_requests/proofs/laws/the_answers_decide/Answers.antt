use Rattle.room_requests.proofs.VisitDecided.{decided}
use Rattle.room_requests.proofs.laws.the_answers_decide.Goals as goal

pub returns : goal.returns
returns c = decided c.the_bytes_decide.ensures
