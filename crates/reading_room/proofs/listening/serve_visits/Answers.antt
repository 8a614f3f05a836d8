use Rattle.std.proofs.Common.{rules}
use Rattle.reading_room.proofs.listening.serve_visits.Goals as goal
use Rattle.devices.proofs.Begun.{all_begins}

pub returns-in-Ok-say_listening-clause-err : goal.returns-in-Ok-say_listening-clause-err
returns-in-Ok-say_listening-clause-err g c =
    let begun = all_begins _ _ _ c.in-Ok-say_listening.ensures.ok in search rules
