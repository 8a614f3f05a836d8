use Rattle.std.proofs.Common.{inl, inr, refl, sym}
use Rattle.parish.proofs.converting.convert.Goals as goal

pub returns-in-Ok : goal.returns-in-Ok
returns-in-Ok g c = inl (refl, (c.in-Ok.field-0, rw (sym c.asked.ensures) c.in-Ok.ensures.done))

pub returns-in-Err : goal.returns-in-Err
returns-in-Err g c = inr (
  c.refuse.ensures.status,
  record {
    why = c.in-Err.refused.error;
    hint = c.in-Err.refused.hint.items;
    reported = c.convert_aloud.new.faults;
    left = rw (sym c.asked.ensures) c.in-Err.ensures.error;
    hint_is = c.in-Err.ensures.hint;
    refuses = c.refuse.ensures.printed;
  },
)
