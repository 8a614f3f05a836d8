use Rattle.std.proofs.Common.{◌≡◌, Err, rules, subst, sym}
use Rattle.record_kinds.specs.Model as model
use Rattle.gedcom_export.specs.Shown.{around_in}
use Rattle.plain_export.specs.Fitting.{LinesFit}
use Rattle.plain_export.specs.Plain.{place_lines}
use Rattle.plain_export.proofs.Failing.{weaker}
use Rattle.plain_export.proofs.kinds.event_lines.Goals as goal

pub returns-in_err-made-clause-refused : goal.returns-in_err-made-clause-refused
returns-in_err-made-clause-refused c =
    let m = c.args.state.now.records in
    let a = around_in c.args.index.now in
    let same : c.from_residual.result ≡ Err c.in_err-made.field-0.0 = search rules in
    rw same (weaker _
    (λ whole. subst (λ (e : model.Event). LinesFit (place_lines m a e.place)) (sym c.event.view_is) whole)
    c.in_err-made.ensures.refused)
