use Rattle.std.proofs.Common.{◌≡◌, ◌++◌, take}
use Rattle.std.specs.List.{flat_map}
use Rattle.put_back.specs.Events.{participant_back}
use Rattle.put_back.proofs.events.push_participants.Given as goal

abbrev pub invariant-each : goal.invariant-each
invariant-each l =
    l.out.items ≡ l.fn.out.items ++ flat_map (participant_back l.number l.now) (take l.participant-index l.old)
