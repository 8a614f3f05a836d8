use Rattle.std.proofs.Common.{◌∙◌, ap}
use Rattle.gedcom_date.specs.Words.{views}
use Rattle.gedcom_date.specs.Form.{BetweenDates}
use Rattle.gedcom_date.specs.Reading.{two_dates}
use Rattle.gedcom_date.proofs.Common.{none_some}
use Rattle.gedcom_date.proofs.Dates.{two_dates_is}
use Rattle.gedcom_date.proofs.forms.between_value.Goals as goal

pub returns-in_err-period-clause-every : goal.returns-in_err-period-clause-every
returns-in_err-period-clause-every c = λ form h good.
    let front = views c.in_ok-front.front.now in
    let back = views c.in_ok-front.back.now in
    let is = two_dates_is BetweenDates (front, back) form (ap (two_dates BetweenDates) c.in_ok-front.ensures ∙ h) in
    let it = rw is.4 at good in
    none_some (c.in_err-period.ensures.every is.0 is.1 is.2 is.3 it.0 it.1 it.2)
