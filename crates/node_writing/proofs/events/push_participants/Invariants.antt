use Rattle.std.proofs.Common.{◌≡◌, ◌++◌, map, drop, string_bytes}
use Rattle.record_shapes.specs.Shapes.{participant_line}
use Rattle.node_writing.specs.Pages.{page}
use Rattle.node_writing.proofs.events.push_participants.Given as goal

abbrev pub invariant-participants : goal.invariant-participants
invariant-participants g l =
    string_bytes l.out ++ page (g.N.Named.names l.index) 2
    (map participant_line (drop l.participant-index l.participants))
    ≡ string_bytes l.fn.out ++ page (g.N.Named.names l.index) 2 (map participant_line l.participants)
