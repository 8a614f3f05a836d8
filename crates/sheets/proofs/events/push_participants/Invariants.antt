use Rattle.std.proofs.Common.{◌≡◌, ◌++◌, take, string_bytes}
use Rattle.std.specs.FinMap as map
use Rattle.std.specs.List.{flat_map}
use Rattle.sheets.specs.Owned as texts
use Rattle.sheets.proofs.events.push_participants.Given as goal

abbrev pub invariant-participants : goal.invariant-participants
invariant-participants l =
    string_bytes l.out
    ≡ string_bytes l.fn.out ++ flat_map
    (texts.participant_text (map.get l.state.records))
    (take l.participant-index l.participants)
