use Rattle.std.proofs.Common.{◌≡◌, ◌∙◌, Err, ap, rules}
use Rattle.record_kinds.specs.Model as model
use Rattle.plain_export.specs.Words.{mention_words}
use Rattle.plain_export.proofs.Failing.{text_in, weaker}
use Rattle.plain_export.proofs.noted.noted_all.Goals as goal

pub returns-in_err-noted_of-clause-refused : goal.returns-in_err-noted_of-clause-refused
returns-in_err-noted_of-clause-refused c =
    let same : c.from_residual.result ≡ Err c.in_err-noted_of.field-0.0 = search rules in
    rw same (weaker _ (text_in mention_words c.args.entry.now.mentions
    c.deref-mention-items.result.now c.mentions.mention-index c.mention-item.result
    (c.deref-mention-items.ensures.value ∙ ap (λ (e : model.Entry). e.mentions) c.entry.view_is)
    c.mentions-test.true c.mention-item.is) c.in_err-noted_of.ensures.refused)
