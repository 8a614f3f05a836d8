use Rattle.std.proofs.Common.{ap, ◌∙◌}
use Rattle.import_definitions.proofs.Lowest.{lowest_is}
use Rattle.page_batches.specs.Looks.{or_none}
use Rattle.page_batches.proofs.looks.at_text.Goals as goal

pub returns-clause-shows : goal.returns-clause-shows
returns-clause-shows g c honest =
    let look = c.in_ok-found.ensures.shows honest in (
      look.0,
      λ held shown.
          let seen = look.1 held shown in
          let m = (g.V.View.content held).records in (
            seen.0,
            c.or_none.ensures ∙ ap or_none (lowest_is m c.args.path.now c.in_ok-found.found seen.1),
          ),
    )
