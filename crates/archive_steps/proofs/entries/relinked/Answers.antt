use Rattle.std.proofs.Common.{rules, ◌≡◌, true}
use Rattle.archive_state.specs.Content.{Content}
use Rattle.archive_steps.specs.Steps.{has_mention}
use Rattle.archive_steps.proofs.Entered.{relinked_same}
use Rattle.archive_steps.proofs.entries.relinked.Goals as goal

pub returns-then-has_link-clause-decides : goal.returns-then-has_link-clause-decides
returns-then-has_link-clause-decides g c honest =
    let made = c.unchanged.ensures.decides honest in
    let has : has_mention c.args.mention c.args.entry ≡ true = search rules in (
      made.0,
      λ held shown.
          let done = made.1 held shown in
          let before : Content = g.V.View.content held in (
            done.0,
            λ at. relinked_same before c.args.number c.args.entry c.args.mention c.args.link c.unchanged.result
                at has (c.has_link.ensures.0 c.if-has_link.true) done.1,
          ),
    )
