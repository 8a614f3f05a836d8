use Rattle.std.proofs.Common.{◌≡◌, ◌++◌, take, map}
use Rattle.record_kinds.specs.Model as model
use Rattle.plain_export.specs.Added as adding
use Rattle.plain_export.proofs.events.add_notes.Given as goal

abbrev pub invariant-participants : goal.invariant-participants
invariant-participants l = l.added.items ≡ l.fn.added.items
    ++ map (λ (p : model.Participant). adding.add l.number (adding.note_of l.state.records p))
    (take l.participant-index l.participants)
