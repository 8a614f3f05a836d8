use Rattle.std.proofs.Common.{◌≡◌, Err, rules}
use Rattle.plain_export.proofs.Failing.{weaker}
use Rattle.plain_export.proofs.gathering.arranged.Goals as goal

pub returns-in_err-made-clause-refused : goal.returns-in_err-made-clause-refused
returns-in_err-made-clause-refused c =
    let same : c.from_residual.result ≡ Err c.in_err-made.field-0.0 = search rules in
    rw same (weaker _ (λ whole. whole) c.in_err-made.ensures.refused)
