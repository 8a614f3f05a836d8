use Rattle.std.proofs.Common.{arith, ◌<ℤ◌, ◌≤ℤ◌}
use Rattle.jiff_core.proofs.SignedLemmas.{signed_casts}
use Rattle.calendar_days.specs.Told.{told}
use Rattle.gedcom_date.proofs.Spans.{joined, ordered_by}
use Rattle.gedcom_date.proofs.period.Period.new.Goals as goal

pub invariant_of-result : goal.invariant_of-result
invariant_of-result c =
    let h : c.first_day.result ≤ℤ c.last_day.result = omega (arith, signed_casts, c.if-first_day-last_day.true) in
    record {
      ordered = ordered_by (told c.args.first) (told c.args.last) c.first_day.result c.last_day.result
          c.first_day.ensures.least c.last_day.ensures.greatest h;
    }

pub returns-else-first_day-last_day-clause-every : goal.returns-else-first_day-last_day-clause-every
returns-else-first_day-last_day-clause-every c = λ ordered.
    let h : c.last_day.result <ℤ c.first_day.result = omega (arith, signed_casts, c.if-first_day-last_day.false) in
    let k = joined (told c.args.first) (told c.args.last) c.first_day.result c.last_day.result ordered
    c.first_day.ensures.least c.last_day.ensures.greatest in
    absurd (omega (arith, signed_casts))
