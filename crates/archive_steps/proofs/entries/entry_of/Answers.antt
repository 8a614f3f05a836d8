use Rattle.std.proofs.Common.{rules, ap, ◌≡◌, ◌∙◌, ◌++◌}
use Rattle.std.specs.Prelude.{Err}
use Rattle.archive_steps.proofs.Entered.{entry_made, entry_stops}
use Rattle.archive_steps.proofs.entries.entry_of.Goals as goal

pub returns-in_err-push_mentions-clause-decides : goal.returns-in_err-push_mentions-clause-decides
returns-in_err-push_mentions-clause-decides c =
    let same : c.from_residual-in_err-push_mentions.result ≡ Err c.in_err-push_mentions.field-0.0 = search rules in
    entry_stops c.args.source c.args.row.now c.as_slice.result.now c.in_ok-page.page c.in_ok-text.text c.in_ok-date.date
    c.in_err-push_mentions.field-0.0
    c.from_residual-in_err-push_mentions.result c.as_slice.ensures.same
    c.in_ok-page.ensures.decides c.in_ok-text.ensures.decides c.in_ok-date.ensures.decides
    c.in_err-push_mentions.ensures.decides same

pub returns-clause-decides : goal.returns-clause-decides
returns-clause-decides c =
    entry_made c.args.source c.args.row.now c.as_slice.result.now c.in_ok-page.page c.in_ok-text.text c.in_ok-date.date
    c.in_ok-push_mentions.field-0 c.push_mentions.new.mentions.items
    c.as_slice.ensures.same
    c.in_ok-page.ensures.decides c.in_ok-text.ensures.decides c.in_ok-date.ensures.decides
    c.in_ok-push_mentions.ensures.decides
    (λ added e. c.in_ok-push_mentions.ensures.pushes added e ∙ ap (λ l. l ++ added) c.new-mentions.ensures.items)
