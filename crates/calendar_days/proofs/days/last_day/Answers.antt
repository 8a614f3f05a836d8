use Rattle.std.proofs.Common.{◌≡◌, ◌∙◌, ap, arith, ℤ, to_z, of_z, w32}
use mir.Syntax.{w16}
use Rattle.jiff_core.proofs.SignedLemmas.{signed_casts}
use Rattle.calendar_days.specs.Calendars.{day_number, month_days, counted}
use Rattle.calendar_days.specs.Told.{told}
use Rattle.calendar_days.proofs.Ends.{end_number, greatest_before, greatest_year, greatest_month, greatest_day}
use Rattle.calendar_days.proofs.days.last_day.Goals as goal

pub returns-in-BeforeChrist-clause-greatest : goal.returns-in-BeforeChrist-clause-greatest
returns-in-BeforeChrist-clause-greatest c =
    let same : to_z w32 (of_z w32 c.year_end.result) ≡ c.year_end.result = omega (arith, signed_casts) in
    let kept : to_z w16 (of_z w16 c.before_christ.result) ≡ c.before_christ.result = omega (arith, signed_casts) in
    let value = same ∙ c.year_end.ensures.value ∙ ap (end_number c.args.date.now.calendar)
    (kept ∙ c.before_christ.ensures.value) in
    greatest_before (told c.args.date.now) (to_z w32 (of_z w32 c.year_end.result)) c.in-BeforeChrist.year
    c.in-BeforeChrist.is value

pub returns-in-Whole-clause-greatest : goal.returns-in-Whole-clause-greatest
returns-in-Whole-clause-greatest c =
    let same : to_z w32 (of_z w32 c.year_end-in-Whole.result) ≡ c.year_end-in-Whole.result = omega
    (arith, signed_casts) in
    let kept : to_z w16 (of_z w16 c.counted_year.result) ≡ c.counted_year.result = omega (arith, signed_casts) in
    let value = same ∙ c.year_end-in-Whole.ensures.value ∙ ap (end_number c.args.date.now.calendar)
    (kept ∙ c.counted_year.ensures.value) in
    greatest_year (told c.args.date.now) (to_z w32 (of_z w32 c.year_end-in-Whole.result)) c.in-Whole.year
    c.in-Whole.is value

pub returns-in-Month-clause-greatest : goal.returns-in-Month-clause-greatest
returns-in-Month-clause-greatest c =
    let same : to_z w32 (of_z w32 c.number.result) ≡ c.number.result = omega (arith, signed_casts) in
    let kept : to_z w16 (of_z w16 c.counted_year-year.result) ≡ c.counted_year-year.result = omega
    (arith, signed_casts) in
    let value = same ∙ c.number.ensures.value
    ∙ ap (λ (y : ℤ). day_number c.args.date.now.calendar y c.in-Month.month c.last_of_month.result)
    (kept ∙ c.counted_year-year.ensures.value)
    ∙ ap (day_number c.args.date.now.calendar (counted c.in-Month.year) c.in-Month.month)
    (c.last_of_month.ensures ∙ ap (λ (y : ℤ). month_days c.args.date.now.calendar y c.in-Month.month)
    (kept ∙ c.counted_year-year.ensures.value)) in
    greatest_month (told c.args.date.now) (to_z w32 (of_z w32 c.number.result)) c.in-Month.month c.in-Month.year
    c.in-Month.is c.args.date.now.exists value

pub returns-in-Day-clause-greatest : goal.returns-in-Day-clause-greatest
returns-in-Day-clause-greatest c =
    let same : to_z w32 (of_z w32 c.number-in-Day.result) ≡ c.number-in-Day.result = omega (arith, signed_casts) in
    let kept : to_z w16 (of_z w16 c.counted_year-in-Day.result) ≡ c.counted_year-in-Day.result = omega
    (arith, signed_casts) in
    let value = same ∙ c.number-in-Day.ensures.value
    ∙ ap (λ (y : ℤ). day_number c.args.date.now.calendar y c.in-Day.month c.in-Day.day)
    (kept ∙ c.counted_year-in-Day.ensures.value) in
    greatest_day (told c.args.date.now) (to_z w32 (of_z w32 c.number-in-Day.result)) c.in-Day.day c.in-Day.month
    c.in-Day.year c.in-Day.is c.args.date.now.exists value
