use Rattle.std.proofs.Common.{◌≡◌, ◌∙◌, Err, ap, rules}
use Rattle.record_kinds.specs.Model as model
use Rattle.plain_export.specs.Added.{add, association}
use Rattle.plain_export.proofs.Failing.{added_in, weaker}
use Rattle.plain_export.proofs.events.add_associations.Goals as goal

pub returns-in_err-association-clause-refused : goal.returns-in_err-association-clause-refused
returns-in_err-association-clause-refused c =
    let same : c.from_residual.result ≡ Err c.in_err-association.field-0.0 = search rules in
    rw same (weaker _ (added_in (λ (p : model.Participant).
    add c.args.person (association c.args.state.now.records c.args.event.now p))
    c.args.event.now.participants c.deref-participant-items.result.now c.participants.participant-index
    c.participant-item.result
    (c.deref-participant-items.ensures.value ∙ ap (λ (e : model.Event). e.participants) c.event.view_is)
    c.participants-test.true c.participant-item.is)
    c.in_err-association.ensures.refused)
