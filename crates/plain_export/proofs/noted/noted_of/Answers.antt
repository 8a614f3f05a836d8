use Rattle.std.proofs.Common.{◌≡◌, Err, rules, subst, sym}
use Rattle.record_text.specs.Text.{IsText}
use Rattle.plain_export.proofs.Failing.{weaker}
use Rattle.plain_export.proofs.noted.noted_of.Goals as goal

pub returns-in_err-words-clause-refused : goal.returns-in_err-words-clause-refused
returns-in_err-words-clause-refused c =
    let same : c.from_residual-in_err-words.result ≡ Err c.in_err-words.field-0.0 = search rules in
    rw same (weaker _ (λ whole. subst IsText (sym c.in_ok-mention_words.ensures) whole) c.in_err-words.ensures.refused)
