use Rattle.std.proofs.Common.{Err, ap, inl, inr, refl}
use Rattle.parish.proofs.applying.apply_expected.Goals as goal

pub returns-in-Ok : goal.returns-in-Ok
returns-in-Ok g c = inr (c.in-Ok.expected, c.do_task.ensures)

pub returns-in-Err : goal.returns-in-Err
returns-in-Err g c = inl (
  (_, (c.in-Err.kind, ap Err c.placeless.ensures, c.in-Err.ensures), c.status_of.ensures),
  refl,
  refl,
  (tt, refl),
)
