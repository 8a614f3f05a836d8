use Rattle.std.proofs.Common.{sym}
use Rattle.parish.proofs.converting.refuse.Goals as goal

pub returns-clause-printed : goal.returns-clause-printed
returns-clause-printed g c = rw (sym c.text_of.ensures) (rw (sym c.hint_of.ensures) c.refuse.ensures.told)
