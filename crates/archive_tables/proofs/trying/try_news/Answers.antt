use Rattle.std.proofs.Common.{◌∙◌}
use Rattle.archive_tables.proofs.Tried.{tried_is}
use Rattle.archive_tables.proofs.trying.try_news.Goals as goal

pub returns-in-Ok-Ok-clause-shows : goal.returns-in-Ok-Ok-clause-shows
returns-in-Ok-Ok-clause-shows g c honest =
    let page = rw c.in-Ok-Ok.field-0-is at c.in-Ok-Ok.ensures in
    let look = c.try_request.ensures.shows honest in (
      look.0,
      λ held shown.
          let found = look.1 held shown in (
            found.0,
            tried_is (g.V.View.content held) c.args.token.now c.in_ok-token.token c.args.source c.args.entries.items
                c.args.news.places c.args.news.paths page.0 _ _ c.try_request.result page.1 c.in_ok-token.ensures
                page.2 (c.deref.ensures.value ∙ page.3) found.1,
          ),
    )
