use Rattle.std.specs.Prelude.{IfOk}
use Rattle.archive_state.specs.Content.{Content}
use Rattle.command_checks.specs.Exact.{IsExact}
use Rattle.member_changes.proofs.Members.{IsOther, unpartner_other, used}
use Rattle.member_changes.proofs.families.unpartner.Goals as goal

pub returns-clause-exact : goal.returns-clause-exact
returns-clause-exact g c honest =
    let made = c.put_family.ensures.exact honest in
    let family = c.in_ok-family.ensures.decides made.0 in (
      family.0,
      λ held shown.
          let before : Content = g.V.View.content held in
          let found = family.1 held shown in
          let done = made.1 held found.0 in (
            done.0,
            used (IfOk c.without_partner.result (IsOther before c.args.number)) (IsExact before)
                c.put_family.result done.1
                (unpartner_other before c.args.number c.args.person c.in_ok-family.family
                c.without_partner.result c.without_partner.ensures found.1),
          ),
    )
