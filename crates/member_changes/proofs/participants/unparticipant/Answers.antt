use Rattle.std.specs.Prelude.{◌≢◌, IfOk, Some}
use Rattle.std.specs.FinMap.{get}
use Rattle.record_kinds.specs.declared.record.Record.TheVariants as kind
use Rattle.archive_state.specs.Content.{Content}
use Rattle.command_checks.specs.Exact.{IsExact}
use Rattle.member_changes.proofs.Members.{event_other, used}
use Rattle.member_changes.proofs.participants.unparticipant.Goals as goal

pub returns-clause-exact : goal.returns-clause-exact
returns-clause-exact g c honest =
    let made = c.put_event.ensures.exact honest in
    let event = c.in_ok-event.ensures.decides made.0 in (
      event.0,
      λ held shown.
          let before : Content = g.V.View.content held in
          let found = event.1 held shown in
          let done = made.1 held found.0 in (
            done.0,
            used (IfOk c.without_participant.result (λ y. get before.records c.args.number ≢ Some (kind.Event y)))
                (IsExact before) c.put_event.result done.1
                (event_other before c.args.number c.args.place c.in_ok-event.event
                c.without_participant.result c.without_participant.ensures found.1),
          ),
    )
