use Rattle.std.proofs.Common.{◌≡◌, ◌++◌, take, string_bytes}
use Rattle.std.specs.List.{flat_map}
use Rattle.showing.specs.Carried.{of_participant}
use Rattle.showing.proofs.carrying.push_participants.Given as goal

abbrev pub invariant-each : goal.invariant-each
invariant-each l = string_bytes l.out
    ≡ string_bytes l.fn.out ++ flat_map of_participant (take l.participant-index l.participants)
