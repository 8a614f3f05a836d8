use Rattle.std.proofs.Common.{rules, ◌≡◌}
use Rattle.archive_steps.proofs.Exactness.{same_date, date_same}
use Rattle.archive_steps.proofs.events.has_date.Goals as goal

pub returns-in-Some-Some : goal.returns-in-Some-Some
returns-in-Some-Some c = (
  (λ same.
      let texts : c.in-Some-Some.date.text ≡ c.in-Some-Some.old.text = search rules in
      same_date c.args.date.now c.args.old.now c.in-Some-Some.date c.in-Some-Some.old c.in-Some-Some.is-0
      c.in-Some-Some.is-1 texts),
  (λ e.
      let texts : c.in-Some-Some.date.text ≡ c.in-Some-Some.old.text = date_same c.args.date.now c.args.old.now
      c.in-Some-Some.date c.in-Some-Some.old c.in-Some-Some.is-0 c.in-Some-Some.is-1 e in
      search rules),
)
