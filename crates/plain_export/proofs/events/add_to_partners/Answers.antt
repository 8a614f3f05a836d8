use Rattle.std.proofs.Common.{◌≡◌, Err, refl, rules, subst, sym}
use Rattle.record_kinds.specs.Model as model
use Rattle.plain_export.specs.Added.{associations}
use Rattle.plain_export.specs.Fitting.{AddedFit}
use Rattle.plain_export.proofs.Failing.{flat_in, weaker}
use Rattle.plain_export.proofs.events.add_to_partners.Goals as goal

pub returns-in_err-add_associations-clause-refused : goal.returns-in_err-add_associations-clause-refused
returns-in_err-add_associations-clause-refused c =
    let m = c.args.state.now.records in
    let e = c.args.event.now in
    let same : c.from_residual.result ≡ Err c.in_err-add_associations.field-0.0 = search rules in
    rw same (weaker _
    (λ whole. subst (λ (p : model.Partner). AddedFit (associations m e p.person)) (sym c.partner.view_is)
    (flat_in (λ (p : model.Partner). p.person) (associations m e) c.args.partners.now c.args.partners.now
    c.partners.partner-index c.partner-item.result refl c.partners-test.true c.partner-item.is whole))
    c.in_err-add_associations.ensures.refused)
