use Rattle.std.proofs.Common.{◌≡◌, Err, get_or, rules, subst, sym}
use Rattle.std.specs.FinMap.{get}
use Rattle.gedcom_export.specs.Shown.{around_in}
use Rattle.plain_export.specs.Firsts.{Firsts}
use Rattle.plain_export.specs.Fitting.{AdditionFits}
use Rattle.plain_export.proofs.Failing.{weaker}
use Rattle.plain_export.proofs.gathering.gathered.Goals as goal

pub returns-in_err-add_found-clause-refused : goal.returns-in_err-add_found-clause-refused
returns-in_err-add_found-clause-refused c =
    let m = c.args.state.now.records in
    let n = get_or c.deref-number-items.result.now c.numbers.number-index 0 in
    let same : c.from_residual-in_err-add_found.result ≡ Err c.in_err-add_found.field-0.0 = search rules in
    rw same (weaker _ (λ whole. subst (λ (f : Firsts). AdditionFits m (around_in c.args.index.now) f n (get m n))
    (sym c.in_ok-firsts.ensures) (whole n)) c.in_err-add_found.ensures.refused)
