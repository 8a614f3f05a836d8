use Rattle.std.proofs.Common.{ap, sym, ◌∙◌}
use Rattle.import_definitions.proofs.Lowest.{lowest_is}
use Rattle.page_answers.specs.Answers.{if_missing}
use Rattle.page_answers.proofs.answers.text_refusal.Goals as goal

pub returns-in-Some-clause-shows : goal.returns-in-Some-clause-shows
returns-in-Some-clause-shows g c honest =
    let look = c.in_ok-place_at.ensures.shows honest in (
      look.0,
      λ held shown.
          let found = look.1 held shown in
          let m = (g.V.View.content held).records in (
            found.0,
            ap if_missing
                (sym c.in-Some.is ∙ lowest_is m c.args.path.now c.in_ok-place_at.field-0 found.1),
          ),
    )

pub returns-in-None-clause-shows : goal.returns-in-None-clause-shows
returns-in-None-clause-shows g c honest =
    let look = c.in_ok-place_at.ensures.shows honest in (
      look.0,
      λ held shown.
          let found = look.1 held shown in
          let m = (g.V.View.content held).records in (
            found.0,
            ap if_missing
                (sym c.in-None.is ∙ lowest_is m c.args.path.now c.in_ok-place_at.field-0 found.1),
          ),
    )
