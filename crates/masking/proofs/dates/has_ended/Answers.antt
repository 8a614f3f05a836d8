use Rattle.std.proofs.Common.{◌∙◌, subst, rules, SFits, w32, w64}
use Rattle.std.specs.Prelude.{Option, ℤ}
use Rattle.std.proofs.lemmas.Int.{to_z-of_z}
use Rattle.masking.specs.Life.{IsLastDay}
use Rattle.masking.proofs.Ended.{not_ended, tested_by}
use Rattle.masking.proofs.dates.has_ended.Goals as goal

pub returns-in-None : goal.returns-in-None
returns-in-None c = (
  λ t. absurd cc,
  λ h. absurd (not_ended c.args.date.now c.args.day
      (subst (λ (o : Option ℤ). IsLastDay c.args.date.now o) c.in-None.is c.in_ok-last_day.ensures) h),
)

pub returns-in-Some : goal.returns-in-Some
returns-in-Some c =
    let last : SFits w32 c.in-Some.last = search rules in
    let from : SFits w64 c.from.result = search rules in
    tested_by c.args.date.now c.args.day c.in-Some.last _ _
    (to_z-of_z w64 c.from.result from ∙ c.from.ensures ∙ to_z-of_z w32 c.in-Some.last last)
    (to_z-of_z w64 c.args.day c.ranges.day)
    (subst (λ (o : Option ℤ). IsLastDay c.args.date.now o) c.in-Some.is c.in_ok-last_day.ensures)
