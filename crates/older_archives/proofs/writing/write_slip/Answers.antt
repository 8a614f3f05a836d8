use Rattle.std.proofs.Common.{◌≡◌}
use Rattle.older_archives.specs.Renewing.{SlipAnew}
use Rattle.older_archives.proofs.writing.write_slip.Goals as goal

pub returns-clause-ok : goal.returns-clause-ok
returns-clause-ok g c clean = rw (← c.slip.view_is) (rw c.deref.ensures.value at (c.write_sides.ensures.ok clean))
