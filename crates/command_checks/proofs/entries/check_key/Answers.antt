use Rattle.archive_state.specs.Content.{Content}
use Rattle.command_checks.proofs.Likes.{key_taken}
use Rattle.command_checks.proofs.entries.check_key.Goals as goal

pub returns-in-Some-clause-decides : goal.returns-in-Some-clause-decides
returns-in-Some-clause-decides g c honest =
    let look = c.in_ok-entry_at.ensures.shows honest in (
      look.0,
      λ held shown.
          let found = look.1 held shown in
          let before : Content = g.V.View.content held in (
            found.0,
            λ _. key_taken c.args.source c.args.kind c.args.page.now c.args.item before.records
                c.in_ok-entry_at.field-0 c.in-Some.field-0 c.in-Some.is found.1,
          ),
    )
