use Rattle.std.proofs.Common.{rules, refl}
use Rattle.std.specs.Prelude.{◌≢◌}
use Rattle.std.specs.FinMap.{get}
use Rattle.record_kinds.specs.declared.record.Record.TheVariants as kind
use Rattle.archive_state.specs.Content.{Content}
use Rattle.archive_steps.proofs.Exactness.{fields_differ, exact_if}
use Rattle.archive_steps.proofs.events.amend_event.Goals as goal

pub returns-clause-exact : goal.returns-clause-exact
returns-clause-exact g c honest =
    let made = c.replaces.ensures.exact honest in
    let place = c.check_place.ensures.decides made.0 in
    let event = c.in_ok-event.ensures.decides place.0 in
    let other : c.with_fields-event.result ≢ c.in_ok-event.event = search rules in (
      event.0,
      λ held shown.
          let before : Content = g.V.View.content held in
          let found = event.1 held shown in
          let there = place.1 held found.0 in
          let done = made.1 held there.0 in (
            done.0,
            exact_if c.replaces.result before before c.args.number (kind.Event c.with_fields-event.result) refl done.1
                (fields_differ (get before.records c.args.number) c.in_ok-event.event
                c.with_fields-event.result found.1 other),
          ),
    )
