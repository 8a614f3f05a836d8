use Rattle.room_requests.proofs.HeadDecided.{too_large_begins, whole_begins}
use Rattle.room_requests.proofs.reading.read_head.Goals as goal

pub returns-in-TooLarge-clause-begins : goal.returns-in-TooLarge-clause-begins
returns-in-TooLarge-clause-begins g c =
    too_large_begins _ _ _ c.in-Ok.ensures.front (rw c.in-TooLarge.is at c.in-Ok.ensures.shows)

pub returns-in-Ok-copy_head-clause-begins : goal.returns-in-Ok-copy_head-clause-begins
returns-in-Ok-copy_head-clause-begins g c =
    let shows = rw c.in-Whole.is at c.in-Ok.ensures.shows in
    whole_begins _ _ _ _ _ _ c.in-Ok.ensures.front shows.0 c.find_head.auto.lines shows.1 c.in-Ok-copy_head.ensures
