use Rattle.std.proofs.Common.{◌≡◌, Err, rules, subst}
use Rattle.std.specs.Prelude.{Option}
use Rattle.record_kinds.specs.Model as model
use Rattle.gedcom_export.specs.Shown.{around_in}
use Rattle.plain_export.specs.Fitting.{LinesFit}
use Rattle.plain_export.specs.Plain.{place_lines}
use Rattle.plain_export.proofs.Failing.{weaker}
use Rattle.plain_export.proofs.kinds.place_lines.Goals as goal

pub returns-in_err-place_line-clause-refused : goal.returns-in_err-place_line-clause-refused
returns-in_err-place_line-clause-refused c =
    let m = c.args.state.now.records in
    let a = around_in c.args.index.now in
    let same : c.from_residual.result ≡ Err c.in_err-place_line.field-0.0 = search rules in
    rw same (weaker _
    (λ whole. (subst (λ (o : Option model.EventPlace). LinesFit (place_lines m a o)) c.in-Some.is whole).0)
    c.in_err-place_line.ensures.refused)
