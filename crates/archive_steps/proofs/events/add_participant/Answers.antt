use Rattle.std.proofs.Common.{rules, ◌≡◌, ap, ◌∙◌, refl}
use Rattle.std.specs.Prelude.{Some}
use Rattle.std.specs.FinMap.{get}
use Rattle.record_kinds.specs.declared.record.Record.TheVariants as kind
use Rattle.archive_state.specs.Content.{Content}
use Rattle.archive_steps.specs.Steps.{with_participant}
use Rattle.archive_steps.proofs.Exactness.{participant_differs, exact_if}
use Rattle.archive_steps.proofs.events.add_participant.Goals as goal

pub returns-clause-exact : goal.returns-clause-exact
returns-clause-exact g c honest =
    let made = c.replaces.ensures.exact honest in
    let person = c.check_person.ensures.decides made.0 in
    let event = c.in_ok-event.ensures.decides person.0 in
    let new : c.in_ok-event-3.event ≡ with_participant c.args.person c.in_ok-role.role c.in_ok-event.event =
    search rules in (
      event.0,
      λ held shown.
          let before : Content = g.V.View.content held in
          let found = event.1 held shown in
          let there = person.1 held found.0 in
          let done = made.1 held there.0 in (
            done.0,
            exact_if c.replaces.result before before c.args.number (kind.Event c.in_ok-event-3.event) refl done.1
                (λ e. participant_differs (get before.records c.args.number) c.in_ok-event.event c.args.person
                c.in_ok-role.role found.1
                (e ∙ ap (λ x. Some (kind.Event x)) new)),
          ),
    )
