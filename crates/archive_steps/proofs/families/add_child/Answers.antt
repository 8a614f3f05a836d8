use Rattle.std.proofs.Common.{rules, ◌≡◌, ap, ◌∙◌, refl}
use Rattle.std.specs.Prelude.{Some}
use Rattle.std.specs.FinMap.{get}
use Rattle.record_kinds.specs.declared.record.Record.TheVariants as kind
use Rattle.archive_state.specs.Content.{Content}
use Rattle.archive_steps.specs.Steps.{with_child}
use Rattle.archive_steps.proofs.Exactness.{child_differs, exact_if}
use Rattle.archive_steps.proofs.families.add_child.Goals as goal

pub returns-clause-exact : goal.returns-clause-exact
returns-clause-exact g c honest =
    let made = c.replaces.ensures.exact honest in
    let person = c.check_person.ensures.decides made.0 in
    let family = c.in_ok-family.ensures.decides person.0 in
    let new : c.in_ok-family-3.family ≡ with_child c.args.person c.in_ok-family.family = search rules in (
      family.0,
      λ held shown.
          let before : Content = g.V.View.content held in
          let found = family.1 held shown in
          let there = person.1 held found.0 in
          let done = made.1 held there.0 in (
            done.0,
            exact_if c.replaces.result before before c.args.number (kind.Family c.in_ok-family-3.family) refl done.1
                (λ e. child_differs (get before.records c.args.number) c.in_ok-family.family c.args.person found.1
                (e ∙ ap (λ x. Some (kind.Family x)) new)),
          ),
    )
