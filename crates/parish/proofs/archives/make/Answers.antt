use Rattle.std.proofs.Common.{refl}
use Rattle.tasks.specs.Status.{as_text}
use Rattle.parish.proofs.archives.make.Goals as goal

pub returns : goal.returns
returns g c = (
  as_text c.init-outcome.result.0,
  (c.init-outcome.result.0, refl, c.init-outcome.ensures.made, c.init-outcome.ensures.refused),
  c.status_of_opening.ensures,
)
