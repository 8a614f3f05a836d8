use Rattle.std.proofs.Common.{◌↔◌, sym, subst}
use Rattle.std.specs.Prelude.{Option, IfOk, IsTrue, ℤ}
use Rattle.std.specs.Int.{w64}
use Rattle.std.proofs.lemmas.Int.{to_z-of_z}
use Rattle.record_fields.specs.declared.date.Date.{Date}
use Rattle.masking.specs.Life.{HasEnded, HasEndedIfThere}
use Rattle.masking.proofs.dates.has_ended_if_there.Goals as goal

pub returns-in-Some : goal.returns-in-Some
returns-in-Some c = subst
    (λ (o : Option Date). IfOk c.has_ended.result (λ ended. IsTrue ended ↔ HasEndedIfThere o c.args.day))
    (sym c.in-Some.is)
    (subst (λ (day : ℤ). IfOk c.has_ended.result (λ ended. IsTrue ended ↔ HasEnded c.in-Some.date day))
    (to_z-of_z w64 c.args.day c.ranges.day) c.has_ended.ensures)
