use Rattle.std.proofs.Common.{◌≡◌, Err, rules}
use Rattle.plain_export.proofs.Failing.{weaker}
use Rattle.plain_export.proofs.lines.words_line.Goals as goal

pub returns-in_err-text-clause-refused : goal.returns-in_err-text-clause-refused
returns-in_err-text-clause-refused c =
    let same : c.from_residual.result ≡ Err c.in_err-text.field-0.0 = search rules in
    rw same (weaker _ (λ whole. whole.0) c.in_err-text.ensures.refused)
