use Rattle.std.proofs.Common.{◌≡◌, Err, refl, rules}
use Rattle.record_kinds.specs.Model as model
use Rattle.plain_export.specs.Added.{add, note_of}
use Rattle.plain_export.proofs.Failing.{added_in, weaker}
use Rattle.plain_export.proofs.events.add_notes.Goals as goal

pub returns-in_err-note_of-clause-refused : goal.returns-in_err-note_of-clause-refused
returns-in_err-note_of-clause-refused c =
    let same : c.from_residual.result ≡ Err c.in_err-note_of.field-0.0 = search rules in
    rw same (weaker _ (added_in (λ (p : model.Participant). add c.args.number (note_of c.args.state.now.records p))
    c.args.participants.now c.args.participants.now c.participants.participant-index c.participant-item.result refl
    c.participants-test.true c.participant-item.is) c.in_err-note_of.ensures.refused)
