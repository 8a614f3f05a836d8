use Rattle.std.proofs.Common.{◌∙◌, ap}
use Rattle.record_lists.specs.Texts.{entries_of}
use Rattle.record_lists.proofs.rows.listed_entries.Goals as goal

pub returns-clause-shows : goal.returns-clause-shows
returns-clause-shows g c = λ honest.
    let later = c.in_ok-found.ensures.shows honest in
    let first = c.in_ok-lines.ensures.shows later.0 in (
      first.0,
      (λ held shown.
          let lines = first.1 held shown in
          let found = later.1 held lines.0 in (
            found.0,
            found.1 ∙ ap (entries_of (g.V.View.content held).records) (c.deref.ensures.value ∙ lines.1),
          )),
    )
