use Rattle.std.proofs.Common.{refl}
use Rattle.store.proofs.adopting.failure_after.Goals as goal

pub returns-then-shows_version-clause-settled : goal.returns-then-shows_version-clause-settled
returns-then-shows_version-clause-settled g c clean sure rows left =
    c.if-shows_version.ensures.settled clean refl rows left
