use Rattle.std.proofs.Common.{◌≡◌, ◌∙◌, sym, arith, FitsSigned, ℤ, subst}
use mir.Syntax.{w16}
use Rattle.std.proofs.lemmas.Int.{to_z-of_z}
use Rattle.jiff_core.proofs.SignedLemmas.{signed_casts}
use Rattle.calendar_days.specs.Calendars.{day_number}
use Rattle.calendar_days.specs.Laws.{republican_formula}
use Rattle.calendar_days.specs.declared.calendar.Calendar.TheVariants.{Republican}
use Rattle.calendar_days.proofs.Republicans.{republican_closed, republican_rule}
use Rattle.calendar_days.proofs.days.republican_number.Goals as goal

pub returns-clause-value : goal.returns-clause-value
returns-clause-value c =
    let fits : FitsSigned w16 c.args.year = c.ranges.year in
    let years = simp to_z-of_z at c.years_before.ensures.value in
    let passed = simp to_z-of_z at c.sextile_years.ensures.value in
    omega (
      arith,
      signed_casts,
      passed,
      republican_closed c.args.year c.years_before.result c.args.month c.args.day years
          c.requires.day.0.0 c.requires.day.0.1 c.requires.day.1.0,
    )

pub returns-clause-formula : goal.returns-clause-formula
returns-clause-formula c = λ n is range.
    returns-clause-value c ∙ subst (λ (y : ℤ). day_number Republican y c.args.month c.args.day
    ≡ republican_formula n c.args.month c.args.day) (sym is)
    (republican_rule n c.args.month c.args.day range.0 range.1 c.requires.day.0.0 c.requires.day.0.1
    c.requires.day.1.0)
