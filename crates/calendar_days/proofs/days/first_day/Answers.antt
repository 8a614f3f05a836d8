use Rattle.std.proofs.Common.{◌≡◌, ◌∙◌, ap, arith, ℤ, to_z, of_z, w32}
use mir.Syntax.{w16}
use Rattle.jiff_core.proofs.SignedLemmas.{signed_casts}
use Rattle.calendar_days.specs.Calendars.{day_number}
use Rattle.calendar_days.specs.Told.{told}
use Rattle.calendar_days.proofs.Ends.{least_before, least_year, least_month, least_day}
use Rattle.calendar_days.proofs.days.first_day.Goals as goal

pub returns-in-BeforeChrist-clause-least : goal.returns-in-BeforeChrist-clause-least
returns-in-BeforeChrist-clause-least c =
    let same : to_z w32 (of_z w32 c.number.result) ≡ c.number.result = omega (arith, signed_casts) in
    let kept : to_z w16 (of_z w16 c.before_christ.result) ≡ c.before_christ.result = omega (arith, signed_casts) in
    let value = same ∙ c.number.ensures.value ∙ ap (λ (y : ℤ). day_number c.args.date.now.calendar y 1 1)
    (kept ∙ c.before_christ.ensures.value) in
    least_before (told c.args.date.now) (to_z w32 (of_z w32 c.number.result)) c.in-BeforeChrist.year
    c.in-BeforeChrist.is value

pub returns-in-Whole-clause-least : goal.returns-in-Whole-clause-least
returns-in-Whole-clause-least c =
    let same : to_z w32 (of_z w32 c.number-in-Whole.result) ≡ c.number-in-Whole.result = omega (arith, signed_casts) in
    let kept : to_z w16 (of_z w16 c.first_year.result) ≡ c.first_year.result = omega (arith, signed_casts) in
    let value = same ∙ c.number-in-Whole.ensures.value ∙ ap (λ (y : ℤ). day_number c.args.date.now.calendar y 1 1)
    (kept ∙ c.first_year.ensures.value) in
    least_year (told c.args.date.now) (to_z w32 (of_z w32 c.number-in-Whole.result)) c.in-Whole.year c.in-Whole.is value

pub returns-in-Month-clause-least : goal.returns-in-Month-clause-least
returns-in-Month-clause-least c =
    let same : to_z w32 (of_z w32 c.number-in-Month.result) ≡ c.number-in-Month.result = omega (arith, signed_casts) in
    let kept : to_z w16 (of_z w16 c.counted_year.result) ≡ c.counted_year.result = omega (arith, signed_casts) in
    let value = same ∙ c.number-in-Month.ensures.value
    ∙ ap (λ (y : ℤ). day_number c.args.date.now.calendar y c.in-Month.month 1)
    (kept ∙ c.counted_year.ensures.value) in
    least_month (told c.args.date.now) (to_z w32 (of_z w32 c.number-in-Month.result)) c.in-Month.month c.in-Month.year
    c.in-Month.is c.args.date.now.exists value

pub returns-in-Day-clause-least : goal.returns-in-Day-clause-least
returns-in-Day-clause-least c =
    let same : to_z w32 (of_z w32 c.number-in-Day.result) ≡ c.number-in-Day.result = omega (arith, signed_casts) in
    let kept : to_z w16 (of_z w16 c.counted_year-in-Day.result) ≡ c.counted_year-in-Day.result = omega
    (arith, signed_casts) in
    let value = same ∙ c.number-in-Day.ensures.value
    ∙ ap (λ (y : ℤ). day_number c.args.date.now.calendar y c.in-Day.month c.in-Day.day)
    (kept ∙ c.counted_year-in-Day.ensures.value) in
    least_day (told c.args.date.now) (to_z w32 (of_z w32 c.number-in-Day.result)) c.in-Day.day c.in-Day.month
    c.in-Day.year c.in-Day.is c.args.date.now.exists value
