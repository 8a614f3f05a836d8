use Rattle.room_requests.proofs.Fronted.{head_is}
use Rattle.room_requests.proofs.arriving.decided_head.Goals as goal

pub returns-in_ok-copy_head-in-Whole : goal.returns-in_ok-copy_head-in-Whole
returns-in_ok-copy_head-in-Whole c =
    let judged = rw c.in-Whole.is at c.requires.judged in
    head_is _ _ _ _ c.requires.size c.requires.lines judged.0 c.in_ok-copy_head-in-Whole.ensures
