use Rattle.room_requests.proofs.Alone.{decide}
use Rattle.room_requests.proofs.laws.the_bytes_decide.Goals as goal

pub returns : goal.returns
returns c = decide
