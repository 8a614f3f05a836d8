use Rattle.std.proofs.Common.{◌≡◌, Err, rules}
use Rattle.plain_export.proofs.Failing.{weaker}
use Rattle.plain_export.proofs.kinds.plain_event.Goals as goal

pub returns-in_err-event_lines-clause-refused : goal.returns-in_err-event_lines-clause-refused
returns-in_err-event_lines-clause-refused c =
    let same : c.from_residual-in_err-event_lines.result ≡ Err c.in_err-event_lines.field-0.0 = search rules in
    rw same (weaker _ (λ whole. whole) c.in_err-event_lines.ensures.refused)
