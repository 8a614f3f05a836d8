use Rattle.std.proofs.Common.{◌∙◌, ap}
use Rattle.gedcom_date.specs.Words.{views}
use Rattle.gedcom_date.specs.Form.{FromToDates}
use Rattle.gedcom_date.specs.Reading.{from_form}
use Rattle.gedcom_date.proofs.Common.{none_some}
use Rattle.gedcom_date.proofs.Dates.{two_dates_is}
use Rattle.gedcom_date.proofs.forms.from_value.Goals as goal

pub returns-in_err-period-in-Some-clause-every : goal.returns-in_err-period-in-Some-clause-every
returns-in_err-period-in-Some-clause-every c = λ form h good.
    let front = views c.in-Some.front.now in
    let back = views c.in-Some.back.now in
    let is = two_dates_is FromToDates (front, back) form
    (ap (λ o. from_form o (views c.args.words.now)) c.in-Some.ensures ∙ h) in
    let it = rw is.4 at good in
    none_some (c.in_err-period-in-Some.ensures.every is.0 is.1 is.2 is.3 it.0 it.1 it.2)
