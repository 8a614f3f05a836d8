use Rattle.std.proofs.Common.{◌≡◌, ap, inl, inr, arith, pos, ◌-ℤ◌, ◌+ℤ◌, to_z, of_z, w32}
use Rattle.jiff_core.proofs.SignedLemmas.{signed_casts}
use Rattle.gedcom_date.proofs.Spans.{
  before_lo,
  before_hi,
  after_lo,
  after_hi,
  from_hi,
  to_lo,
  all_lo,
  all_hi,
  period_lo,
  period_hi,
}
use Rattle.calendar_days.specs.Told.{told}
use Rattle.gedcom_date.specs.View.{view}
use Rattle.gedcom_date.proofs.days.span.Goals as goal

pub returns-in-Before-clause-lo : goal.returns-in-Before-clause-lo
returns-in-Before-clause-lo c =
    before_lo (view c.args.value.now) (told c.in-Before.date) c.first_day.result (ap view c.in-Before.is)
    c.first_day.ensures.least

pub returns-in-Before-clause-hi : goal.returns-in-Before-clause-hi
returns-in-Before-clause-hi c =
    let r = to_z w32 (of_z w32 (to_z w32 (of_z w32 c.first_day.result) -ℤ pos 1)) in
    let e : r ≡ c.first_day.result -ℤ pos 1 = omega (
      arith,
      signed_casts,
      c.first_day.ensures.low,
      c.first_day.ensures.high,
    ) in
    before_hi (view c.args.value.now) (told c.in-Before.date) c.first_day.result r (ap view c.in-Before.is)
    c.first_day.ensures.least e

pub returns-in-After-clause-lo : goal.returns-in-After-clause-lo
returns-in-After-clause-lo c =
    let r = to_z w32 (of_z w32 (to_z w32 (of_z w32 c.last_day.result) +ℤ pos 1)) in
    let e : r ≡ c.last_day.result +ℤ pos 1 = omega (
      arith,
      signed_casts,
      c.last_day.ensures.low,
      c.last_day.ensures.high,
    ) in
    after_lo (view c.args.value.now) (told c.in-After.date) c.last_day.result r (ap view c.in-After.is)
    c.last_day.ensures.greatest e

pub returns-in-After-clause-hi : goal.returns-in-After-clause-hi
returns-in-After-clause-hi c =
    after_hi (view c.args.value.now) (told c.in-After.date) c.last_day.result (ap view c.in-After.is)
    c.last_day.ensures.greatest

pub returns-in-Between-clause-lo : goal.returns-in-Between-clause-lo
returns-in-Between-clause-lo c =
    let e : to_z w32 (of_z w32 c.first_day-in-Between.result) ≡ c.first_day-in-Between.result = omega
    (arith, signed_casts, c.first_day-in-Between.ensures.low, c.first_day-in-Between.ensures.high) in
    rw e (period_lo (view c.args.value.now) (told c.in-Between.period.first) (told c.in-Between.period.last)
    c.first_day-in-Between.result c.last_day-in-Between.result (inl (ap view c.in-Between.is))
    c.in-Between.period.ordered c.first_day-in-Between.ensures.least c.last_day-in-Between.ensures.greatest)

pub returns-in-Between-clause-hi : goal.returns-in-Between-clause-hi
returns-in-Between-clause-hi c =
    let e : to_z w32 (of_z w32 c.last_day-in-Between.result) ≡ c.last_day-in-Between.result = omega
    (arith, signed_casts, c.last_day-in-Between.ensures.low, c.last_day-in-Between.ensures.high) in
    rw e (period_hi (view c.args.value.now) (told c.in-Between.period.first) (told c.in-Between.period.last)
    c.first_day-in-Between.result c.last_day-in-Between.result (inl (ap view c.in-Between.is))
    c.in-Between.period.ordered c.first_day-in-Between.ensures.least c.last_day-in-Between.ensures.greatest)

pub returns-in-FromTo-clause-lo : goal.returns-in-FromTo-clause-lo
returns-in-FromTo-clause-lo c =
    let e : to_z w32 (of_z w32 c.first_day-in-FromTo.result) ≡ c.first_day-in-FromTo.result = omega
    (arith, signed_casts, c.first_day-in-FromTo.ensures.low, c.first_day-in-FromTo.ensures.high) in
    rw e (period_lo (view c.args.value.now) (told c.in-FromTo.period.first) (told c.in-FromTo.period.last)
    c.first_day-in-FromTo.result c.last_day-in-FromTo.result (inr (ap view c.in-FromTo.is))
    c.in-FromTo.period.ordered c.first_day-in-FromTo.ensures.least c.last_day-in-FromTo.ensures.greatest)

pub returns-in-FromTo-clause-hi : goal.returns-in-FromTo-clause-hi
returns-in-FromTo-clause-hi c =
    let e : to_z w32 (of_z w32 c.last_day-in-FromTo.result) ≡ c.last_day-in-FromTo.result = omega
    (arith, signed_casts, c.last_day-in-FromTo.ensures.low, c.last_day-in-FromTo.ensures.high) in
    rw e (period_hi (view c.args.value.now) (told c.in-FromTo.period.first) (told c.in-FromTo.period.last)
    c.first_day-in-FromTo.result c.last_day-in-FromTo.result (inr (ap view c.in-FromTo.is))
    c.in-FromTo.period.ordered c.first_day-in-FromTo.ensures.least c.last_day-in-FromTo.ensures.greatest)

pub returns-in-From-clause-hi : goal.returns-in-From-clause-hi
returns-in-From-clause-hi c =
    from_hi (view c.args.value.now) (told c.in-From.date) c.first_day-in-From.result (ap view c.in-From.is)
    c.first_day-in-From.ensures.least

pub returns-in-To-clause-lo : goal.returns-in-To-clause-lo
returns-in-To-clause-lo c =
    to_lo (view c.args.value.now) (told c.in-To.date) c.last_day-in-To.result (ap view c.in-To.is)
    c.last_day-in-To.ensures.greatest

pub returns-in-Phrase-clause-lo : goal.returns-in-Phrase-clause-lo
returns-in-Phrase-clause-lo c =
    all_lo (view c.args.value.now) (λ n. rw c.in-Phrase.is tt)

pub returns-in-Phrase-clause-hi : goal.returns-in-Phrase-clause-hi
returns-in-Phrase-clause-hi c =
    all_hi (view c.args.value.now) (λ n. rw c.in-Phrase.is tt)

pub returns-in-Verbatim-clause-lo : goal.returns-in-Verbatim-clause-lo
returns-in-Verbatim-clause-lo c =
    all_lo (view c.args.value.now) (λ n. rw c.in-Verbatim.is tt)

pub returns-in-Verbatim-clause-hi : goal.returns-in-Verbatim-clause-hi
returns-in-Verbatim-clause-hi c =
    all_hi (view c.args.value.now) (λ n. rw c.in-Verbatim.is tt)

pub returns-in-On-clause-lo : goal.returns-in-On-clause-lo
returns-in-On-clause-lo c = rw c.in-On.is c.days_of.ensures.lo

pub returns-in-On-clause-hi : goal.returns-in-On-clause-hi
returns-in-On-clause-hi c = rw c.in-On.is c.days_of.ensures.hi

pub returns-in-Near-clause-lo : goal.returns-in-Near-clause-lo
returns-in-Near-clause-lo c = rw c.in-Near.is c.days_of-in-Near.ensures.lo

pub returns-in-Near-clause-hi : goal.returns-in-Near-clause-hi
returns-in-Near-clause-hi c = rw c.in-Near.is c.days_of-in-Near.ensures.hi

pub returns-in-Interpreted-clause-lo : goal.returns-in-Interpreted-clause-lo
returns-in-Interpreted-clause-lo c = rw c.in-Interpreted.is c.days_of-in-Interpreted.ensures.lo

pub returns-in-Interpreted-clause-hi : goal.returns-in-Interpreted-clause-hi
returns-in-Interpreted-clause-hi c = rw c.in-Interpreted.is c.days_of-in-Interpreted.ensures.hi
